-- What a sink in memory stands for: the bytes that were written, its limits, and its calls with their faults.
use Rattle.std.specs.Prelude.{◌≡◌, ℕ, ◌-◌, ◌==◌, Bool, true, false, List, [], ◌∷◌, ◌++◌, length, min, Result, Ok, Err, if◌then◌else◌}
use Rattle.std.specs.List.{list_any}
use Rattle.pol_outside.specs.Faults.{one_more}
use Rattle.pol_outside.specs.declared.memory_sink.MemorySink.{MemorySink}
use Rattle.pol_outside.specs.declared.sink.SinkFault.{SinkFault}

-- the bytes that were written
abbrev pub bytes_of : MemorySink → List ℕ
bytes_of sink = sink.bytes.items

-- for how many bytes there is room in all, and how many it takes at most at one call
pub record SinkLimits : Type 0 where
  pub room : ℕ
  pub most : ℕ

abbrev pub sink_limits : MemorySink → SinkLimits
sink_limits sink = record { room = sink.room; most = sink.most }

-- the numbers of the calls that are to fail, counted from 1; how many calls were made; the faults
pub record SinkCalls : Type 0 where
  pub failing : List ℕ
  pub made : ℕ
  pub faults : ℕ

abbrev pub sink_calls : MemorySink → SinkCalls
sink_calls sink = record { failing = sink.failing.items; made = sink.calls; faults = sink.faults }

-- no call was made and none is to fail
abbrev pub no_sink_calls : SinkCalls
no_sink_calls = record { failing = []; made = 0; faults = 0 }

-- the calls where one more is to fail
abbrev pub put_fails_at : ℕ → SinkCalls → SinkCalls
put_fails_at call calls = record calls { failing = calls.failing ++ call ∷ [] }

-- how many of the bytes fit after those that were written, at one call
abbrev pub fits_next : MemorySink → List ℕ → ℕ
fits_next sink piece = min (length piece) (min sink.most (sink.room - length sink.bytes.items))

-- whether the next call is a fault: it is to fail, or no room is left
abbrev pub next_put_is_fault : MemorySink → Bool
next_put_is_fault sink = if sink.room - length sink.bytes.items == 0 then true else list_any (λ call. call == one_more sink.calls) sink.failing.items

-- a fault is answered exactly where the call is one, and else all that fits is taken
abbrev pub PutsWhatFits : Bool → ℕ → Result ℕ SinkFault → Type 0
PutsWhatFits is_fault fits (Ok n) = (is_fault ≡ false) × (n ≡ fits)
PutsWhatFits is_fault fits (Err e) = is_fault ≡ true
