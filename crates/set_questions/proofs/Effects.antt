-- The statements of one effect: their names, their plans, and where one of them stands.
use Rattle.std.proofs.Common.{◌≡◌, ◌+◌, ℕ, suc, zero, List, [], ◌∷◌, ◌++◌, length, map, slice_get, Bool, true, false, Option, Some, None, if◌then◌else◌, inl, inr, refl, ap, sym, ◌∙◌, subst, arith}
use Rattle.std.specs.List.{flat_map}
use Rattle.std.proofs.lemmas.Bool.{cases_Bool}
use Rattle.std.proofs.lemmas.Grind.{flat_map-append}
use Rattle.std.proofs.lemmas.List.{length-map, map-append}
use Rattle.std.proofs.lemmas.Option.{same_Some}
use Rattle.policy_model.specs.declared.schema.Schema.{Schema}
use Rattle.policy_model.specs.declared.set.Document.{Document}
use Rattle.policy_model.specs.declared.set.Statement.{Statement}
use Rattle.policy_model.specs.declared.set.StatementName.{StatementName}
use Rattle.policy_model.specs.StatementNames.{Named, named_guards}
use Rattle.policy_compile.specs.Plans.{Plan}
use Rattle.policy_compile.specs.Sets.{document_plans, statement_plan, statement_plans, where_same}
use Rattle.set_questions.specs.Laws.{statements_named}
use Rattle.set_questions.specs.Requirements.{guard_names, guard_requirements, has_effect, names_with, of_effect, plans_of}
use Rattle.set_questions.proofs.Taking.{document_statements}

-- ---- names

pub all-names : (ns : List Named) → names_with None ns ≡ map (λ (n : Named). n.0) ns
all-names [] = refl
all-names (n ∷ ns) = ap (λ ms. n.0 ∷ ms) (all-names ns)

own-names : (b : Bool) (n : Named) → map (λ (m : Named). m.0) (if b then n ∷ [] else []) ≡ (if b then n.0 ∷ [] else [])
own-names true n = refl
own-names false n = refl

pub names-of-effect : (e : Option Bool) (ns : List Named) → names_with e ns ≡ map (λ (n : Named). n.0) (of_effect e ns)
names-of-effect e [] = refl
names-of-effect e (n ∷ ns) =
    ap (λ ms. (if has_effect e n.1.allow then n.0 ∷ [] else []) ++ ms) (names-of-effect e ns)
    ∙ ap (λ ms. ms ++ map (λ (m : Named). m.0) (of_effect e ns)) (sym (own-names (has_effect e n.1.allow) n))
    ∙ sym (map-append (λ (m : Named). m.0) (if has_effect e n.1.allow then n ∷ [] else []) (of_effect e ns))

-- ---- where one stands

-- the statement has the effect, and stands behind so many others that have it
pub record StandsIn (e : Option Bool) (ns : List Named) (i : ℕ) (n : Named) : Type 0 where
  pub before : List Named
  pub after : List Named
  pub whole : ns ≡ before ++ n ∷ after
  pub count : length (of_effect e before) ≡ i
  pub has : has_effect e n.1.allow ≡ true

pub stands-in : (e : Option Bool) (ns : List Named) (i : ℕ) (n : Named) → slice_get (of_effect e ns) i ≡ Some n → StandsIn e ns i n
stands-in e [] i n at = absurd (cc)
stands-in e (m ∷ ns) zero n at = elim (cases_Bool (has_effect e m.1.allow)) [
  | inl is ↦
      let same : m ≡ n = same_Some m n (subst (λ (b : Bool). slice_get ((if b then m ∷ [] else []) ++ of_effect e ns) 0 ≡ Some n) is at) in
      record { before = []; after = ns; whole = ap (λ x. x ∷ ns) same; count = refl; has = subst (λ (x : Named). has_effect e x.1.allow ≡ true) same is }
  | inr is ↦
      let rest = stands-in e ns 0 n (subst (λ (b : Bool). slice_get ((if b then m ∷ [] else []) ++ of_effect e ns) 0 ≡ Some n) is at) in
      record { before = m ∷ rest.before; after = rest.after; whole = ap (λ xs. m ∷ xs) rest.whole; count = ap (λ b. length ((if b then m ∷ [] else []) ++ of_effect e rest.before)) is ∙ rest.count; has = rest.has }
]
stands-in e (m ∷ ns) (suc i) n at = elim (cases_Bool (has_effect e m.1.allow)) [
  | inl is ↦
      let rest = stands-in e ns i n (subst (λ (b : Bool). slice_get ((if b then m ∷ [] else []) ++ of_effect e ns) (suc i) ≡ Some n) is at) in
      record { before = m ∷ rest.before; after = rest.after; whole = ap (λ xs. m ∷ xs) rest.whole; count = ap (λ b. length ((if b then m ∷ [] else []) ++ of_effect e rest.before)) is ∙ ap (λ k. suc k) rest.count; has = rest.has }
  | inr is ↦
      let rest = stands-in e ns (suc i) n (subst (λ (b : Bool). slice_get ((if b then m ∷ [] else []) ++ of_effect e ns) (suc i) ≡ Some n) is at) in
      record { before = m ∷ rest.before; after = rest.after; whole = ap (λ xs. m ∷ xs) rest.whole; count = ap (λ b. length ((if b then m ∷ [] else []) ++ of_effect e rest.before)) is ∙ rest.count; has = rest.has }
]

-- ---- plans

where-same : (a b : Bool) (ps : List Plan) → b ≡ a → where_same a b ps ≡ ps
where-same true true ps e = refl
where-same true false ps e = absurd (cc)
where-same false true ps e = absurd (cc)
where-same false false ps e = refl

where-other : (a b : Bool) (ps : List Plan) → (b ≡ a → ⊥) → where_same a b ps ≡ []
where-other true true ps e = absurd (e refl)
where-other true false ps e = refl
where-other false true ps e = refl
where-other false false ps e = absurd (e refl)

module _ (schema : Schema) where
  abbrev own_plans : Bool → Statement → List Plan
  own_plans allow s = where_same allow s.allow (statement_plan schema s ∷ [])

  -- documents have the plans of their statements
  pub plans-flat : (allow : Bool) (ds : List Document) → document_plans schema allow ds ≡ statement_plans schema allow (document_statements ds)
  plans-flat allow [] = refl
  plans-flat allow (d ∷ ds) =
      ap (λ ps. statement_plans schema allow d.statements ++ ps) (plans-flat allow ds)
      ∙ sym (flat_map-append (own_plans allow) d.statements (document_statements ds))

  pub plans-joined : (allow : Bool) (xs ys : List Statement) → statement_plans schema allow (xs ++ ys) ≡ statement_plans schema allow xs ++ statement_plans schema allow ys
  plans-joined allow xs ys = flat_map-append (own_plans allow) xs ys

  -- a statement between others has its plan between theirs, if it has the effect, and else none
  pub plans-with : (allow : Bool) (xs ys : List Statement) (s : Statement) → s.allow ≡ allow →
      statement_plans schema allow (xs ++ s ∷ ys) ≡ statement_plans schema allow xs ++ statement_plan schema s ∷ statement_plans schema allow ys
  plans-with allow xs ys s is =
      plans-joined allow xs (s ∷ ys)
      ∙ ap (λ ps. statement_plans schema allow xs ++ (ps ++ statement_plans schema allow ys)) (where-same allow s.allow (statement_plan schema s ∷ []) is)

  pub plans-past : (allow : Bool) (xs ys : List Statement) (s : Statement) → (s.allow ≡ allow → ⊥) → statement_plans schema allow (xs ++ s ∷ ys) ≡ statement_plans schema allow (xs ++ ys)
  plans-past allow xs ys s other =
      plans-joined allow xs (s ∷ ys)
      ∙ ap (λ ps. statement_plans schema allow xs ++ (ps ++ statement_plans schema allow ys)) (where-other allow s.allow (statement_plan schema s ∷ []) other)
      ∙ sym (plans-joined allow xs ys)

  own-plans : (allow b : Bool) (n : Named) → plans_of schema (if has_effect (Some allow) b then n ∷ [] else []) ≡ where_same allow b (statement_plan schema n.1 ∷ [])
  own-plans true true n = refl
  own-plans true false n = refl
  own-plans false true n = refl
  own-plans false false n = refl

  pub plans-of-effect : (allow : Bool) (ns : List Named) → plans_of schema (of_effect (Some allow) ns) ≡ statement_plans schema allow (statements_named ns)
  plans-of-effect allow [] = refl
  plans-of-effect allow (n ∷ ns) =
      map-append (λ (m : Named). statement_plan schema m.1) (if has_effect (Some allow) n.1.allow then n ∷ [] else []) (of_effect (Some allow) ns)
      ∙ ap (λ ps. ps ++ plans_of schema (of_effect (Some allow) ns)) (own-plans allow n.1.allow n)
      ∙ ap (λ ps. where_same allow n.1.allow (statement_plan schema n.1 ∷ []) ++ ps) (plans-of-effect allow ns)

  pub plans-count : (allow : Bool) (ns : List Named) → length (statement_plans schema allow (statements_named ns)) ≡ length (of_effect (Some allow) ns)
  plans-count allow ns = ap (λ (ps : List Plan). length ps) (sym (plans-of-effect allow ns)) ∙ length-map (of_effect (Some allow) ns) (λ (m : Named). statement_plan schema m.1)
