-- Hints that replay from few and from many answers replay from all between.
use Rattle.std.proofs.Common.{◌≡◌, ℕ, List, [], ◌∷◌, ◌++◌, Some, None, inl, inr, refl, sym, subst, ◌∙◌, slice_get}
use Rattle.formula_tree.specs.Answers.{Answers, answer_of, Contained}
use Rattle.formula_tree.proofs.Laws.{answer_of-more, answer_of-last}
use Rattle.cnf_clauses.specs.Literals.{Clause, Literal, IsUndecided, IsUnit}
use Rattle.cnf_clauses.specs.Replays.{Replays, refuted, derives}
use Rattle.cnf_clauses.proofs.Hinting.{unit-is, same_clause, none-replay}
use Rattle.cnf_clauses.proofs.Settling.{cases_option, false-in, contained-more}

-- what many answers leave open, fewer do
pub open-in : (few many : Answers) (n : ℕ) → Contained few many → answer_of many n ≡ None → answer_of few n ≡ None
open-in few many n inside open_there =
    elim (cases_option (answer_of few n)) [
      | inl e ↦ e
      | inr (b, e) ↦ let bad : None ≡ Some b = sym open_there ∙ inside n b e in absurd (cc)
    ]

-- both grow by one literal
pub contained-both : (few many : Answers) (l : Literal) → Contained few many → IsUndecided many l → Contained (few ++ l ∷ []) (many ++ l ∷ [])
contained-both few many l inside u =
    contained-more few (many ++ l ∷ []) l (λ n b h. answer_of-more many (l ∷ []) n b (inside n b h)) (answer_of-last many l.0 l.1 u)

unit-between : (few between many : Answers) (c : Clause) (l : Literal) → Contained few between → Contained between many → IsUnit few c l → IsUndecided many l → IsUnit between c l
unit-between few between many c l inside outside u w = record {
  stands = u.stands;
  undecided = open-in between many l.0 outside w;
  others = λ n k. elim (u.others n k) [ inl e ↦ inl e | inr f ↦ inr (false-in few between n inside f) ];
}

pub convex : (cs : List Clause) (hs : List ℕ) (few between many : Answers) → Contained few between → Contained between many → Replays cs few hs → Replays cs many hs → Replays cs between hs
convex cs hs few between many inside outside (refuted d h c there all) second =
    refuted between h c there (λ m k. false-in few between m inside (all m k))
convex cs hs few between many inside outside (derives d h rest c l there u r) (refuted d2 h2 c2 there2 all2) = absurd (none-replay cs (few ++ l ∷ []) [] refl r)
convex cs hs few between many inside outside (derives d h rest c l there u r) (derives d2 h2 rest2 c2 m there2 v s) =
    let same : c2 ≡ c = same_clause (slice_get cs h) c2 c there2 there in
    let w : IsUnit many c m = subst (λ (y : Clause). IsUnit many y m) same v in
    let one : m ≡ l = unit-is few c l m u w.stands (open-in few many m.0 (λ n b k. outside n b (inside n b k)) w.undecided) in
    let last : IsUndecided many l = subst (λ (y : Literal). IsUndecided many y) one w.undecided in
    let after : Replays cs (many ++ l ∷ []) rest = subst (λ (y : Literal). Replays cs (many ++ y ∷ []) rest) one s in
    let here : IsUnit between c l = unit-between few between many c l inside outside u last in
    derives between h rest c l there here
    (convex cs rest (few ++ l ∷ []) (between ++ l ∷ []) (many ++ l ∷ [])
    (contained-both few between l inside here.undecided) (contained-both between many l outside last) r after)
