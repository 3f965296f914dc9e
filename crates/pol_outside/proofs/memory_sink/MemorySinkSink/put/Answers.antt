-- The search finds this unasked; asked for here, a wrong body is refused without a longer search.
use Rattle.std.proofs.Common.{rules}
use Rattle.pol_outside.proofs.memory_sink.MemorySinkSink.put.Goals as goal

pub returns-clause-puts : goal.returns-clause-puts
returns-clause-puts c = search rules
