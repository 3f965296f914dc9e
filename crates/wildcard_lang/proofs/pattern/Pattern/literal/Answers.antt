use Rattle.std.proofs.Common.{◌≡◌, false, rules}
use Rattle.wildcard_lang.specs.Reading.{literals}
use Rattle.wildcard_lang.proofs.PatternRules.{IsPattern-literals}
use Rattle.wildcard_lang.proofs.pattern.Pattern.literal.Goals as goal

pub invariant_of-result : goal.invariant_of-result
invariant_of-result c =
    let made : c.in_ok-pieces.pieces.items ≡ literals false c.args.text.now = search rules in
    rw made (IsPattern-literals false c.args.text.now c.as_slice.ensures.text c.requires)
