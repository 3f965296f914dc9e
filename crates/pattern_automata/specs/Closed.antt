-- Closed sets of product states: of lists of places, one for each pattern.
use Rattle.std.specs.Prelude.{◌≡◌, ℕ, ◌+◌, ◌<◌, ◌⊎◌, ◌↔◌, IsTrue, List, [], ◌∷◌, length}
use Rattle.std.specs.Prelude.{slice_index_or, Bool, true, false, ◌||◌, ◌&&◌, ◌==◌, nat_le, All, Any, Contains}
use Rattle.std.specs.Bool.{beq, MatchBool}
use Rattle.std.specs.List.{list_any}
use Rattle.wildcard_lang.specs.declared.piece.Piece.{Piece}
use Rattle.wildcard_lang.specs.declared.piece.Piece.TheVariants.{Lit, LitFold, One, Many, OneNoColon, ManyNoColon}
use Rattle.std.specs.Char.{IsScalar, to_ascii_uppercase}
use Rattle.wildcard_lang.specs.Text.{IsText}
use Rattle.wildcard_lang.specs.Matching.{Matches}
use Rattle.wildcard_lang.specs.Accepts.{accepts}
use Rattle.pattern_automata.specs.declared.wants.Literal.{Literal}
use Rattle.pattern_automata.specs.declared.wants.Wants.{Wants}
use Rattle.wildcard_lang.specs.Places.{contains_place, lists_of, step_lists}

-- some literal of the clause is met, where `answer i` says whether pattern i matches
abbrev pub clause_holds : (ℕ → Bool) → List Literal → Bool
clause_holds answer [] = false
clause_holds answer (l ∷ ls) = beq (answer l.pattern) l.holds || clause_holds answer ls

abbrev pub clauses_hold : (ℕ → Bool) → List (List Literal) → Bool
clauses_hold answer [] = true
clauses_hold answer (k ∷ ks) = clause_holds answer k && clauses_hold answer ks

-- a test that computes whether the text meets the clauses
abbrev pub text_meets : List (List Piece) → List (List Literal) → List ℕ → Bool
text_meets patterns clauses t = clauses_hold (λ i. accepts (slice_index_or patterns i []) t) clauses

-- the literal's pattern matches the text or not, as the literal says
abbrev pub IsLiteralMet : List (List Piece) → List ℕ → Literal → Type 0
IsLiteralMet patterns t l =
    MatchBool l.holds (Matches (slice_index_or patterns l.pattern []) t) (Matches (slice_index_or patterns l.pattern []) t → ⊥)

-- the text meets the clauses: each has a literal that is met
abbrev pub Meets : List (List Piece) → List (List Literal) → List ℕ → Type 0
Meets patterns clauses t = All (Any (IsLiteralMet patterns t)) clauses

-- in a product state a pattern matches where the number of its pieces is among its places
abbrev pub lists_meet : List (List Piece) → List (List Literal) → List (List ℕ) → Bool
lists_meet patterns clauses lists =
    clauses_hold (λ i. contains_place (slice_index_or lists i []) (length (slice_index_or patterns i []))) clauses

-- each literal names a pattern
abbrev pub InRange : ℕ → List (List Literal) → Type 0
InRange n clauses = All (All (λ (l : Literal). l.pattern < n)) clauses

-- the piece names the character
abbrev pub names_character : Piece → ℕ → Bool
names_character (Lit d) c = c == d
names_character (LitFold d) c = (c == d) || (c == to_ascii_uppercase d)
names_character One c = false
names_character Many c = false
names_character OneNoColon c = false
names_character ManyNoColon c = false

abbrev pub names_any : List Piece → ℕ → Bool
names_any ps c = list_any (λ p. names_character p c) ps

-- the character is the colon, a literal of the patterns, or a case of a folded one
abbrev pub is_named_character : List (List Piece) → ℕ → Bool
is_named_character [] c = c == 58
is_named_character (p ∷ ps) c = names_any p c || is_named_character ps c

-- the least scalar that is not named
pub record IsFresh (patterns : List (List Piece)) (c : ℕ) : Type 0 where
  pub scalar : IsScalar c
  pub new : is_named_character patterns c ≡ false
  pub least : (d : ℕ) → IsScalar d → d < c → is_named_character patterns d ≡ true

-- each scalar steps as one of these does
abbrev pub IsRepresentative : List (List Piece) → ℕ → Type 0
IsRepresentative patterns c = (IsScalar c × (is_named_character patterns c ≡ true)) ⊎ IsFresh patterns c

-- whether the numbers strictly rise, from i on
abbrev pub rises_from : ℕ → List ℕ → Bool
rises_from i [] = true
rises_from i (j ∷ js) = nat_le i j && rises_from (j + 1) js

abbrev pub all_rise : List (List ℕ) → Bool
all_rise [] = true
all_rise (l ∷ ls) = rises_from 0 l && all_rise ls

-- one part per pattern, each strictly rising
abbrev pub IsShaped : List (List Piece) → List (List ℕ) → Type 0
IsShaped patterns lists = (length lists ≡ length patterns) × (all_rise lists ≡ true)

-- no text leads out of this set of product states, and none of them meets the clauses
pub record IsClosed (patterns : List (List Piece)) (clauses : List (List Literal)) (set : List (List (List ℕ))) : Type 0 where
  pub shaped : All (IsShaped patterns) set
  pub starts : Contains set (lists_of patterns [])
  pub steps : (lists : List (List ℕ)) (c : ℕ) → Contains set lists → IsRepresentative patterns c →
      Contains set (step_lists patterns lists c)
  pub none_meets : (lists : List (List ℕ)) → Contains set lists → lists_meet patterns clauses lists ≡ false

abbrev pub IsClosedUnder : Wants → List (List (List ℕ)) → Type 0
IsClosedUnder wants set = IsClosed wants.patterns wants.clauses set

-- no text over all scalars meets the clauses
abbrev pub HaveNoText : List (List Piece) → List (List Literal) → Type 0
HaveNoText patterns clauses = (t : List ℕ) → IsText t → Meets patterns clauses t → ⊥

-- a closed set has no text that meets the clauses
abbrev pub ClosedSetsAreEmpty : Type 0
ClosedSetsAreEmpty =
    (patterns : List (List Piece)) (clauses : List (List Literal)) (set : List (List (List ℕ))) →
    InRange (length patterns) clauses → IsClosed patterns clauses set → HaveNoText patterns clauses

-- each scalar steps as some representative does
abbrev pub ScalarsStepAsRepresentatives : Type 0
ScalarsStepAsRepresentatives =
    (patterns : List (List Piece)) (c : ℕ) → IsScalar c →
    (r : ℕ) × IsRepresentative patterns r
    × ((lists : List (List ℕ)) → step_lists patterns lists c ≡ step_lists patterns lists r)

-- the test answers whether the text meets the clauses
abbrev pub MeetsIsTested : Type 0
MeetsIsTested =
    (patterns : List (List Piece)) (clauses : List (List Literal)) (t : List ℕ) →
    IsTrue (text_meets patterns clauses t) ↔ Meets patterns clauses t

-- and from the product state of a text the same is read as from the text
abbrev pub ListsMeetAsTexts : Type 0
ListsMeetAsTexts =
    (patterns : List (List Piece)) (clauses : List (List Literal)) (t : List ℕ) →
    InRange (length patterns) clauses → lists_meet patterns clauses (lists_of patterns t) ≡ text_meets patterns clauses t
