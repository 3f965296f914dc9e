-- Of two equal statements of the grants each is idle, and the last Allow statement of a guard takes all with it.
use Rattle.std.proofs.Common.{◌≡◌, ◌≢◌, ◌⊎◌, ◌↔◌, ◌+◌, ◌-◌, ◌<◌, suc, List, [], ◌∷◌, ◌++◌, length, All, true, false, inl, inr, ap, sym, ◌∙◌, subst, arith}
use Rattle.std.specs.Prelude.{Any, Contains}
use Rattle.std.proofs.lemmas.List.{map-append}
use Rattle.std.proofs.lemmas.List.Elements.{All-head, All-tail}
use Rattle.std.proofs.lemmas.Option.{slice_get_within}
use Rattle.policy_model.proofs.Laws.{Any-here, Any-later, Any-nil, Any-split}
use Rattle.policy_model.specs.declared.request.Request.{Request}
use Rattle.policy_model.specs.declared.schema.Schema.{Schema}
use Rattle.policy_model.specs.declared.set.Document.{Document}
use Rattle.policy_model.specs.declared.set.PolicySet.{PolicySet}
use Rattle.policy_model.specs.declared.set.Statement.{Statement}
use Rattle.policy_model.specs.declared.set.StatementName.{StatementName}
use Rattle.policy_model.specs.Sets.{Allows, Decides, SomeDecides}
use Rattle.policy_model.specs.StatementNames.{Named, named_grants}
use Rattle.set_questions.specs.Idle.{IsIdle}
use Rattle.set_questions.specs.Removal.{change_item, document_without, without_statement}
use Rattle.set_questions.specs.Laws.{HasSilentGuard, LastAllowsOfGuards, TwinsAreIdle, statements_named}
use Rattle.set_questions.proofs.Losing.{guards-none}
use Rattle.set_questions.proofs.Placed.{in-documents, there-cases}
use Rattle.set_questions.proofs.Taking.{document_statements, goes-of-documents, unnamed-documents}

-- ---- some of lists

any-front : {T : Type 0} (P : T → Type 0) (xs ys : List T) → Any P xs → Any P (xs ++ ys)
any-front P [] ys some = absurd (Any-nil P some)
any-front P (x ∷ xs) ys some = elim (Any-split P x xs some) [ inl p ↦ Any-here P x (xs ++ ys) p | inr later ↦ Any-later P x (xs ++ ys) (any-front P xs ys later) ]

any-behind : {T : Type 0} (P : T → Type 0) (xs ys : List T) → Any P ys → Any P (xs ++ ys)
any-behind P [] ys some = some
any-behind P (x ∷ xs) ys some = Any-later P x (xs ++ ys) (any-behind P xs ys some)

any-joined : {T : Type 0} (P : T → Type 0) (xs ys : List T) → Any P (xs ++ ys) → Any P xs ⊎ Any P ys
any-joined P [] ys some = inr some
any-joined P (x ∷ xs) ys some = elim (Any-split P x (xs ++ ys) some) [
  | inl p ↦ inl (Any-here P x xs p)
  | inr later ↦ elim (any-joined P xs ys later) [ inl a ↦ inl (Any-later P x xs a) | inr b ↦ inr b ]
]

-- an item that stands in a list cuts it in two
cut-at : {T : Type 0} (x : T) (xs : List T) → Contains xs x → (before after : List T) × (xs ≡ before ++ x ∷ after)
cut-at x [] at = absurd (let h = at.1 in omega (arith, h))
cut-at x (y ∷ xs) at = elim (there-cases y x xs at) [
  | inl e ↦ ([], xs, ap (λ z. z ∷ xs) e)
  | inr later ↦ let c = cut-at x xs later in (y ∷ c.0, c.1, ap (λ zs. y ∷ zs) c.2)
]

any-there : {T : Type 0} (P : T → Type 0) (y : T) (xs : List T) → P y → Contains xs y → Any P xs
any-there P y xs p at = (at.0, y, at.1, at.2, p)

-- another item stands before or after it
beside : {T : Type 0} (P : T → Type 0) (x y : T) (before after : List T) → (x ≡ y → ⊥) → P y → Contains (before ++ x ∷ after) y → Any P (before ++ after)
beside P x y [] after other p at = elim (there-cases x y after at) [ inl e ↦ absurd (other e) | inr later ↦ any-there P y after p later ]
beside P x y (z ∷ before) after other p at = elim (there-cases z y (before ++ x ∷ after) at) [
  | inl e ↦ Any-here P z (before ++ after) (subst P (sym e) p)
  | inr later ↦ Any-later P z (before ++ after) (beside P x y before after other p later)
]

-- ---- some statement of documents

some-flat : (P : Statement → Type 0) (ds : List Document) → (Any P (document_statements ds) ↔ Any (λ d. Any P d.statements) ds)
some-flat P [] = (λ some. absurd (Any-nil P some), λ some. absurd (Any-nil (λ (d : Document). Any P d.statements) some))
some-flat P (d ∷ ds) = (
  λ some. elim (any-joined P d.statements (document_statements ds) some) [
    | inl a ↦ Any-here (λ (e : Document). Any P e.statements) d ds a
    | inr b ↦ Any-later (λ (e : Document). Any P e.statements) d ds ((some-flat P ds).0 b)
  ],
  λ some. elim (Any-split (λ (e : Document). Any P e.statements) d ds some) [
    | inl a ↦ any-front P d.statements (document_statements ds) a
    | inr b ↦ any-behind P d.statements (document_statements ds) ((some-flat P ds).1 b)
  ],
)

-- a statement before or after, without its name
unnamed-any : (P : Statement → Type 0) (ns : List Named) → Any (λ (n : Named). P n.1) ns → Any P (statements_named ns)
unnamed-any P [] some = absurd (Any-nil (λ (n : Named). P n.1) some)
unnamed-any P (n ∷ ns) some = elim (Any-split (λ (m : Named). P m.1) n ns some) [
  | inl p ↦ Any-here P n.1 (statements_named ns) p
  | inr later ↦ Any-later P n.1 (statements_named ns) (unnamed-any P ns later)
]

-- ---- twins

module _ (set : PolicySet) (s : Statement) (name other : StatementName) (at : Contains (named_grants set) (name, s)) (at_other : Contains (named_grants set) (other, s)) (differ : name ≢ other) where
  -- the guards stay as they are
  same-guards : (without_statement set name).guards ≡ set.guards
  same-guards =
      let p = in-documents 1 set.grants name s at in
      let number : name.document ≡ 1 + p.i = p.document_number in
      let within : p.i < length set.grants = slice_get_within set.grants p.i p.document p.document_is in
      let e : name.document - length set.grants ≡ 0 = omega (arith, number, within) in
      rw e (guards-none name.statement set.guards)

  -- what is left of the grants has the twin, and so has some statement of which P holds where they do
  same-grants : (P : Statement → Type 0) → (Any (λ d. Any P d.statements) set.grants ↔ Any (λ d. Any P d.statements) (without_statement set name).grants)
  same-grants P =
      let c = cut-at (name, s) (named_grants set) at in
      let before = statements_named c.0 in
      let after = statements_named c.1 in
      let one = goes-of-documents 1 set.grants c.0 name s c.1 c.2 in
      let d : name.document ≡ 1 + one.i = one.document_number in
      let k : name.statement ≡ 1 + one.j = one.statement_number in
      let document : name.document ≡ suc one.i = omega (arith, d) in
      let statement : name.statement ≡ suc one.j = omega (arith, k) in
      let left : document_statements (without_statement set name).grants ≡ before ++ after =
      ap (λ m. document_statements (change_item (document_without name.statement) m set.grants)) document
      ∙ ap (λ m. document_statements (change_item (document_without m) (suc one.i) set.grants)) statement ∙ one.left in
      let whole : document_statements set.grants ≡ before ++ s ∷ after =
      sym (unnamed-documents 1 set.grants) ∙ ap (λ ns. statements_named ns) c.2 ∙ map-append (λ (n : Named). n.1) c.0 ((name, s) ∷ c.1) in
      let twin : Contains (c.0 ++ (name, s) ∷ c.1) (other, s) = subst (λ (ns : List Named). Contains ns (other, s)) c.2 at_other in (
        λ some. (some-flat P (without_statement set name).grants).0 (subst (Any P) (sym left) (
            elim (any-joined P before (s ∷ after) (subst (Any P) whole ((some-flat P set.grants).1 some))) [
              | inl a ↦ any-front P before after a
              | inr b ↦ elim (Any-split P s after b) [
                | inl p ↦ subst (Any P) (map-append (λ (n : Named). n.1) c.0 c.1)
                    (unnamed-any P (c.0 ++ c.1) (beside (λ (n : Named). P n.1) (name, s) (other, s) c.0 c.1 (λ e. differ (ap (λ (n : Named). n.0) e)) p twin))
                | inr later ↦ any-behind P before after later
              ]
            ])),
        λ some. (some-flat P set.grants).0 (subst (Any P) (sym whole) (
            elim (any-joined P before after (subst (Any P) left ((some-flat P (without_statement set name).grants).1 some))) [
              | inl a ↦ any-front P before (s ∷ after) a
              | inr b ↦ any-behind P before (s ∷ after) (Any-later P s after b)
            ])),
      )

  twin-idle : (schema : Schema) → IsIdle schema set name
  twin-idle schema r valid =
      let allow = same-grants (Decides schema true r) in
      let deny = same-grants (Decides schema false r) in (
        λ h. record {
          granted = allow.0 h.granted;
          guarded = subst (λ (gs : List (List Document)). All (SomeDecides schema true r) gs) (sym same-guards) h.guarded;
          not_denied = λ some. h.not_denied (deny.1 some);
          not_denied_by_guard = λ some. h.not_denied_by_guard (subst (λ (gs : List (List Document)). Any (SomeDecides schema false r) gs) same-guards some);
        },
        λ h. record {
          granted = allow.1 h.granted;
          guarded = subst (λ (gs : List (List Document)). All (SomeDecides schema true r) gs) same-guards h.guarded;
          not_denied = λ some. h.not_denied (deny.0 some);
          not_denied_by_guard = λ some. h.not_denied_by_guard (subst (λ (gs : List (List Document)). Any (SomeDecides schema false r) gs) (sym same-guards) some);
        },
      )

pub twins-idle : TwinsAreIdle
twins-idle schema set s name other at at_other differ = twin-idle set s name other at at_other differ schema

-- ---- guards without an Allow statement

none-of-all : {T : Type 0} (P Q : T → Type 0) → ((x : T) → P x → Q x → ⊥) → (xs : List T) → All P xs → Any Q xs → ⊥
none-of-all P Q apart [] each some = Any-nil Q some
none-of-all P Q apart (x ∷ xs) each some = elim (Any-split Q x xs some) [
  | inl q ↦ apart x (All-head P x xs each) q
  | inr later ↦ none-of-all P Q apart xs (All-tail P x xs each) later
]

module _ (schema : Schema) (r : Request) where
  silent : (g : List Document) → All (λ d. All (λ s. s.allow ≡ false) d.statements) g → SomeDecides schema true r g → ⊥
  silent g each some =
      none-of-all (λ (d : Document). All (λ s. s.allow ≡ false) d.statements) (λ (d : Document). Any (Decides schema true r) d.statements)
      (λ d none one. none-of-all (λ (s : Statement). s.allow ≡ false) (Decides schema true r) (λ s is decides. absurd (let e = decides.0 in cc)) d.statements none one) g each some

  nothing-allowed : (set : PolicySet) → HasSilentGuard set → Allows schema set r → ⊥
  nothing-allowed set some h =
      none-of-all (SomeDecides schema true r) (All (λ d. All (λ s. s.allow ≡ false) d.statements)) (λ g allows each. silent g each allows) set.guards h.guarded some

pub last-allows : LastAllowsOfGuards
last-allows schema set name some = (
  λ idle r valid h. nothing-allowed schema r (without_statement set name) some ((idle r valid).0 h),
  λ none r valid. (λ h. absurd (none r valid h), λ h. absurd (nothing-allowed schema r (without_statement set name) some h)),
)
