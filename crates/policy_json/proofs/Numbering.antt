-- How documents are numbered through several lists.
use Rattle.std.proofs.Common.{◌≡◌, ℕ, ◌+◌, List, [], ◌∷◌, ◌++◌, length, ap, sym, ◌∙◌, arith}
use Rattle.std.proofs.lemmas.List.{append_assoc}
use Rattle.std.proofs.lemmas.List.Sums.{sum_by-cons}
use Rattle.serde_json.specs.Data.{Data}
use Rattle.policy_json.specs.Checks.{PolicyCheck}
use Rattle.policy_json.specs.Documents.{document_checks, statements_in}
use Rattle.policy_json.specs.Sets.{documents_checks, statement_count}

-- the same numbers give the same checks
same_numbers : (n m b c : ℕ) (ds : List Data) → n ≡ m → b ≡ c → documents_checks n b ds ≡ documents_checks m c ds
same_numbers n m b c ds p q = ap (λ (k : ℕ). documents_checks k b ds) p ∙ ap (λ (k : ℕ). documents_checks m k ds) q

-- documents behind others are numbered behind them
pub documents_checks-append : (n b m c : ℕ) (xs ys : List Data) → m ≡ n + length xs → c ≡ b + statement_count xs → documents_checks n b (xs ++ ys) ≡ documents_checks n b xs ++ documents_checks m c ys
documents_checks-append n b m c [] ys p q = same_numbers n m b c ys (omega (arith, p)) (omega (arith, q))
documents_checks-append n b m c (x ∷ xs) ys p q =
    let count : statement_count (x ∷ xs) ≡ length (statements_in x) + statement_count xs = sum_by-cons (λ d. length (statements_in d)) x xs in
    let rest = documents_checks-append (n + 1) (b + length (statements_in x)) m c xs ys (omega (arith, p)) (omega (arith, q, count)) in
    ap (λ (some : List PolicyCheck). document_checks n b x ++ some) rest ∙ sym (append_assoc (document_checks n b x) (documents_checks (n + 1) (b + length (statements_in x)) xs) (documents_checks m c ys))
