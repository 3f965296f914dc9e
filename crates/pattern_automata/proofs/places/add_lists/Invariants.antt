use Rattle.std.proofs.Common.{◌≡◌, ◌++◌, List, ℕ, length, take}
use Rattle.wildcard_lang.specs.Places.{lists_of}
use Rattle.pattern_automata.specs.Cuts.{AreEndsOf, cut_at}
use Rattle.pattern_automata.specs.Marks.{mark_count}
use Rattle.pattern_automata.specs.Packed.{all_words}
use Rattle.pattern_automata.proofs.places.add_lists.Given as goal

abbrev pub invariant-loop-pattern : goal.invariant-loop-pattern
invariant-loop-pattern l =
    (l.at ≡ mark_count (take l.pattern-index l.patterns))
    × AreEndsOf 0 l.ends.items (length l.places.items)
    × ((state : List (List ℕ)) × (cut_at 0 l.ends.items l.places.items ≡ cut_at 0 l.fn.ends.items l.fn.places.items ++ state)
    × ((t : List ℕ) → l.words ≡ all_words l.patterns t → state ≡ lists_of (take l.pattern-index l.patterns) t))
