use Rattle.std.proofs.Common.{◌≡◌, List, All, Bool, true, false, not, true≢false, refl, sym, subst}
use Rattle.policy_model.specs.Sets.{SomeDecides}
use Rattle.policy_model.specs.declared.set.Document.{Document}
use Rattle.policy_eval.proofs.eval.allows.Goals as goal

unless : (b : Bool) → ¬ (b ≡ true) → not b ≡ true
unless true fails = absurd (fails refl)
unless false fails = refl

fails-where : (b : Bool) → not b ≡ true → b ≡ true → ⊥
fails-where true is holds = true≢false (sym is)
fails-where false is holds = true≢false (sym holds)

pub returns-then-not-guards_allow : goal.returns-then-not-guards_allow
returns-then-not-guards_allow c = (
  λ e. absurd (cc),
  λ allowed. absurd (cc (c.guards_allow.ensures.1 (subst (λ (xs : List (List Document)). All (SomeDecides c.args.schema.now true c.args.request.now) xs) (sym c.as_slice.ensures) allowed.guarded))),
)

pub returns : goal.returns
returns c = (
  λ e. record {
    granted = c.some_decides.ensures.0 c.if-not-some_decides.false;
    guarded = subst (λ (xs : List (List Document)). All (SomeDecides c.args.schema.now true c.args.request.now) xs) c.as_slice.ensures (c.guards_allow.ensures.0 c.if-not-guards_allow.false);
    not_denied = λ denied. fails-where c.some_decides-2.result e (c.some_decides-2.ensures.1 denied);
    not_denied_by_guard = λ denied. absurd (cc (c.guards_deny.ensures.1 denied));
  },
  λ allowed. unless c.some_decides-2.result (λ denied. allowed.not_denied (c.some_decides-2.ensures.0 denied)),
)
