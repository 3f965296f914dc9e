use Rattle.std.proofs.Common.{◌≡◌, ◌≢◌, ◌∙◌, ◌↔◌, [], ◌∷◌, ◌++◌, IsTrue, ◌<◌, ◌-◌, true, false, None, length, refl, sym, subst, arith, rules, append-nil}
use Rattle.std.proofs.lemmas.List.{length-set}
use Rattle.std.proofs.lemmas.Result.{on_ok_weaker}
use Rattle.formula_tree.specs.Answers.{Contained, answer_of}
use Rattle.formula_tree.specs.Runs.{path_with}
use Rattle.formula_tree.specs.Values.{value}
use Rattle.formula_tree.specs.declared.value.Three.TheVariants.{No}
use Rattle.policy_compile.specs.Queries.{asked_tree}
use Rattle.cnf_clauses.specs.Following.{IsConflictAt}
use Rattle.nogoods.specs.Hits.{NoHit, answers_at}
use Rattle.wildcard_lang.specs.Places.{ShowWider}
use Rattle.policy_model.specs.declared.test.Slot.{Slot}
use Rattle.policy_model.specs.declared.test.Test.TheVariants.{Action}
use Rattle.slot_theory.specs.declared.outcome.SlotValue.{SlotValue}
use Rattle.slot_theory.specs.Slots.{SlotIsIn, ValueMeets, patterns_at, test_at}
use Rattle.slot_theory.specs.Cores.{IsConflict}
use Rattle.slot_theory.proofs.Laws.{own-test, slot-in}
use Rattle.search_parts.specs.Parts.{ClosesByStore}
use Rattle.search_parts.specs.Making.{part_proof}
use Rattle.tree_search.specs.Cores.{IsKeptPart}
use Rattle.tree_search.specs.Search.{AreCarried, IsFoundFrom, IsLonger, IsRefutedPart, Stands, followed_at, spent_between}
use Rattle.tree_search.specs.States.{IsDeeper}
use Rattle.tree_search.specs.Values.{IsHeldAt}
use Rattle.tree_search.proofs.Carrying.{here, longer-asked, longer-kept, longer-range, longer-with, popped, put-back}
use Rattle.tree_search.proofs.Finding.{found-at, found-join, found-no, found-short, found-skip, found-yes, joined-stands, ready-join, restored-then, side-made, test-open, test-within}
use Rattle.tree_search.proofs.Following.{back-there, conflict-there, followed-there, new-there}
use Rattle.tree_search.proofs.Keeping.{kept-with, slot-kept, slot-within}
use Rattle.tree_search.proofs.Picking.{waits-for-none}
use Rattle.tree_search.proofs.Searching.{clauses-refuted, kept-refuted, met-here, reuse-refuted, slot-refuted, value-refuted, wide-here}
use Rattle.tree_search.proofs.Standing.{at-deeper, pick-said, restored-back, restored-same, restored-split, spent-back, value-said}
use Rattle.tree_search.proofs.search.Search.+search.Goals as goal

pub enter-returns-in-No-clause-found : goal.enter-returns-in-No-clause-found
enter-returns-in-No-clause-found t c =
    let schema = c.args.self.now.schema.now in
    let query = c.args.self.now.query.now in
    let path = c.args.state.now.path in
    let is_no : value path (asked_tree query) ≡ No = value-said query path c.args.state.now.tree c.value.result c.requires.stands.evaluated c.value.ensures ∙ c.in-No.is in
    let range = longer-range schema query path c.args.state.now.values c.args.test c.args.answer c.requires.ahead.longer in
    value-refuted schema query path c.args.state.now.learned.lists c.requires.ready.asked.below range (c.args.state.now.left - c.args.state.now.left) c.in_ok-value_part.field-0 (omega arith) c.in_ok-value_part.ensures is_no

pub enter-returns-in-No-clause-restored : goal.enter-returns-in-No-clause-restored
enter-returns-in-No-clause-restored t c = restored-same c.args.self.now c.args.state.now c.requires.stands

pub enter-push-requires : goal.enter-push-requires
enter-push-requires t c =
    let longer = c.requires.ahead.longer in
    new-there c.args.self.now.query.now longer.before c.args.state.now.path c.args.test c.args.answer c.args.state.now.clauses c.requires.ahead.behind longer.is longer.new

pub enter-returns-in-Some : goal.enter-returns-in-Some
enter-returns-in-Some t c =
    let schema = c.args.self.now.schema.now in
    let query = c.args.self.now.query.now in
    let path = c.args.state.now.path in
    let old = c.args.state.now.clauses in
    let longer = c.requires.ahead.longer in
    let range = longer-range schema query path c.args.state.now.values c.args.test c.args.answer longer in
    let met : (c.push.new.self ≡ old) × IsConflictAt old.clauses (old.path ++ (c.args.test, c.args.answer) ∷ []) c.in-Some.conflict = rw c.in-Some.is at c.in_ok-conflict.ensures.ok in
    let conflict = conflict-there query longer.before path c.args.test c.args.answer old c.requires.ahead.behind longer.is c.in-Some.conflict met.1 in
    record {
      found = clauses-refuted schema query path c.args.state.now.learned.lists c.requires.ready.asked.below range (c.args.state.now.left - c.args.state.now.left) c.in_ok-clauses_part.field-0 c.in-Some.conflict (omega arith) c.in_ok-clauses_part.ensures conflict;
      restored = record { path = refl; values = refl; clauses = met.0; left = omega arith; stands = c.requires.stands; more = []; grows = sym (append-nil c.args.state.now.learned.lists) };
    }

pub enter-go_in-requires : goal.enter-go_in-requires
enter-go_in-requires t c =
    let query = c.args.self.now.query.now in
    let path = c.args.state.now.path in
    let old = c.args.state.now.clauses in
    let longer = c.requires.ahead.longer in
    let more : c.push.new.self ≡ record { clauses = old.clauses; path = old.path ++ (c.args.test, c.args.answer) ∷ [] } = rw c.in_default-2.is at c.in_ok-conflict.ensures.ok in
    let follows = followed-there query longer.before path c.args.test c.args.answer old c.requires.ahead.behind longer.is c.push.new.self more in
    let may : value path (asked_tree query) ≢ No = λ is_no. c.in_default.not-No (sym (value-said query path c.args.state.now.tree c.value.result c.requires.stands.evaluated c.value.ensures) ∙ is_no) in
    (search rules, (record { ready = c.requires.ready; stands = c.requires.stands; follows = follows }, (longer, may)))

pub enter-returns : goal.enter-returns
enter-returns t c =
    let r = c.in_ok-found.ensures.restored in
    let old = c.args.state.now.clauses in
    let more : c.push.new.self ≡ record { clauses = old.clauses; path = old.path ++ (c.args.test, c.args.answer) ∷ [] } = rw c.in_default-2.is at c.in_ok-conflict.ensures.ok in
    record {
      found = c.in_ok-found.ensures.found;
      restored = record {
        path = r.path;
        values = r.values;
        clauses = back-there old c.go_in.new.state.clauses c.pop.new.self c.args.test c.args.answer (r.clauses ∙ more) c.pop.ensures.clauses c.pop.ensures.last;
        left = r.left;
        stands = r.stands;
        more = r.more;
        grows = r.grows;
      };
    }

pub go_in-reuse_part-requires-clause-within : goal.go_in-reuse_part-requires-clause-within
go_in-reuse_part-requires-clause-within t c = c.in-Some.ensures.0

pub go_in-reuse_part-requires-clause-few : goal.go_in-reuse_part-requires-clause-few
go_in-reuse_part-requires-clause-few t c = c.requires.at.stands.stored.few

pub go_in-returns-in-Some-clause-found : goal.go_in-returns-in-Some-clause-found
go_in-returns-in-Some-clause-found t c =
    let schema = c.args.self.now.schema.now in
    let query = c.args.self.now.query.now in
    let path = c.args.state.now.path in
    let lists = c.args.state.now.learned.lists in
    let stored = c.requires.at.stands.stored in
    let range = longer-range schema query path c.args.state.now.values c.args.test c.args.answer c.requires.longer in
    let there : Contained (answers_at lists c.in-Some.number) path = rw stored.path_is at c.in-Some.ensures.1 in
    reuse-refuted schema query path lists c.requires.at.ready.asked.below range (c.args.state.now.left - c.args.state.now.left) c.in_ok-part.part c.in-Some.number (omega arith) stored.right c.in_ok-part.ensures c.in-Some.ensures.0 there

pub go_in-returns-in-Some-clause-restored : goal.go_in-returns-in-Some-clause-restored
go_in-returns-in-Some-clause-restored t c = restored-same c.args.self.now c.args.state.now c.requires.at.stands

pub go_in-hit-requires-2 : goal.go_in-hit-requires-2
go_in-hit-requires-2 t c = c.requires.at.stands.kept.count

pub go_in-returns-in-Some-2-clause-found : goal.go_in-returns-in-Some-2-clause-found
go_in-returns-in-Some-2-clause-found t c =
    let schema = c.args.self.now.schema.now in
    let query = c.args.self.now.query.now in
    let path = c.args.state.now.path in
    let stands = c.requires.at.stands in
    let range = longer-range schema query path c.args.state.now.values c.args.test c.args.answer c.requires.longer in
    let k : IsKeptPart c.args.state.now.cores c.in-Some-2.part = rw c.in-Some-2.is at c.in_ok-part-2.ensures in
    let there : Contained k.answers path = rw stands.cores_path at k.there in
    kept-refuted schema query path c.args.state.now.learned.lists c.requires.at.ready.asked.below range (c.args.state.now.left - c.args.state.now.left) c.in-Some-2.part k.answers _ (omega arith) stands.stored.right k.is (stands.kept.each k.number k.answers k.refutation k.list k.kept) there

pub go_in-returns-in-Some-2-clause-restored : goal.go_in-returns-in-Some-2-clause-restored
go_in-returns-in-Some-2-clause-restored t c = restored-same c.args.self.now c.args.state.now c.requires.at.stands

pub go_in-settle-requires : goal.go_in-settle-requires
go_in-settle-requires t c =
    let lists = c.args.state.now.learned.lists in
    let none : NoHit lists c.args.state.now.learned.path = rw c.in_default.is at c.hit.ensures in
    let nothing : NoHit lists c.args.state.now.path = rw c.requires.at.stands.stored.path_is at none in
    (search rules, (record { at = c.requires.at; may = c.requires.may; nothing = nothing }, c.requires.longer))

pub go_on-search-requires : goal.go_on-search-requires
go_on-search-requires t c =
    let state = c.args.state.now in
    let carried : AreCarried c.args.self.now.schema.now c.args.self.now.query.now state.path (state.values ++ c.args.value ∷ []) = rw c.in_default.is at c.requires.carries in
    let carries : AreCarried c.args.self.now.schema.now c.args.self.now.query.now state.path c.push.new.self = rw c.in_ok-push.ensures.ok carried in
    let open_at = c.requires.open in
    (search rules, (record { at = record { ready = open_at.at.ready; stands = open_at.at.stands; follows = open_at.at.follows }; may = open_at.may; nothing = open_at.nothing }, carries))

pub go_on-returns-in_default-clause-restored : goal.go_on-returns-in_default-clause-restored
go_on-returns-in_default-clause-restored t c =
    let r = c.in_ok-found.ensures.restored in
    record {
      path = r.path;
      values = popped c.args.state.now.values c.args.value c.search.new.state.values c.pop.new.values c.pop.result (r.values ∙ c.in_ok-push.ensures.ok) c.pop.ensures.last c.pop.ensures.nonempty.1;
      clauses = r.clauses;
      left = r.left;
      stands = r.stands;
      more = r.more;
      grows = r.grows;
    }

pub go_on-exchange-before-requires : goal.go_on-exchange-before-requires
go_on-exchange-before-requires t c =
    let h : IsHeldAt c.args.value.0 c.args.state.now.values c.in-Some.i = rw c.in-Some.is at c.requires.index in
    here c.args.state.now.values c.in-Some.i c.args.value.0 h.value h.value h.there

pub go_on-exchange-requires : goal.go_on-exchange-requires
go_on-exchange-requires t c =
    let h : IsHeldAt c.args.value.0 c.args.state.now.values c.in-Some.i = rw c.in-Some.is at c.requires.index in
    let within = here c.args.state.now.values c.in-Some.i c.args.value.0 h.value h.value h.there in
    let same = c.in_ok-found-2.ensures.restored.values ∙ c.exchange-before.ensures.new in
    let long = length-set c.args.state.now.values c.in-Some.i c.args.value in
    rw same (omega arith)

pub go_on-returns-clause-restored : goal.go_on-returns-clause-restored
go_on-returns-clause-restored t c =
    let r = c.in_ok-found-2.ensures.restored in
    let same = r.values ∙ c.exchange-before.ensures.new in
    record {
      path = r.path;
      values = (rw same at c.exchange.ensures.new) ∙ put-back c.args.state.now.values c.in-Some.i c.args.value _ c.exchange-before.ensures.old;
      clauses = r.clauses;
      left = r.left;
      stands = r.stands;
      more = r.more;
      grows = r.grows;
    }

pub renew-possible-requires-clause-sound : goal.renew-possible-requires-clause-sound
renew-possible-requires-clause-sound t c = c.requires.open.at.ready.asked.sound

pub renew-possible-requires-clause-suit : goal.renew-possible-requires-clause-suit
renew-possible-requires-clause-suit t c = c.requires.open.at.ready.asked.suit

pub renew-possible-requires-clause-count : goal.renew-possible-requires-clause-count
renew-possible-requires-clause-count t c = c.requires.open.at.ready.asked.count

pub renew-possible-requires-clause-positive : goal.renew-possible-requires-clause-positive
renew-possible-requires-clause-positive t c = c.requires.open.at.ready.asked.positive

pub renew-possible-requires-clause-range : goal.renew-possible-requires-clause-range
renew-possible-requires-clause-range t c = longer-range c.args.self.now.schema.now c.args.self.now.query.now c.args.state.now.path c.args.state.now.values c.args.test c.args.answer c.requires.longer

pub renew-possible-requires-clause-slot : goal.renew-possible-requires-clause-slot
renew-possible-requires-clause-slot t c =
    let schema = c.args.self.now.schema.now in
    let query = c.args.self.now.query.now in
    let own = slot-in schema (test_at query.tests c.args.test) (c.requires.open.at.ready.asked.suit c.args.test (Action []) c.requires.longer.within) in
    subst (SlotIsIn schema) (sym c.requires.slot) own

pub renew-go_on-requires : goal.renew-go_on-requires
renew-go_on-requires t c =
    let with = longer-with c.args.self.now.schema.now c.args.self.now.query.now c.args.state.now.path c.args.state.now.values c.args.test c.args.answer c.requires.longer c.args.slot c.in-Found.value c.args.index c.requires.slot c.requires.index (rw c.in-Found.is at c.in_ok-value.ensures.outcome) in
    let open_at = c.requires.open in
    (search rules, (record { at = record { ready = open_at.at.ready; stands = open_at.at.stands; follows = open_at.at.follows }; may = open_at.may; nothing = open_at.nothing }, (c.requires.index, with)))

pub renew-returns-in-Found-clause-restored : goal.renew-returns-in-Found-clause-restored
renew-returns-in-Found-clause-restored t c = on_ok_weaker c.go_on.result (λ r. record { path = r.path; values = r.values; clauses = r.clauses; left = r.left; stands = r.stands; more = r.more; grows = r.grows }) c.go_on.ensures.restored

pub renew-keep-requires : goal.renew-keep-requires
renew-keep-requires t c = slot-within c.args.self.now.schema.now c.args.self.now.query.now.tests c.args.state.now.path c.args.state.now.cores.lists.path c.in-Conflict.core c.in-Conflict.proof c.in_ok-part-in-Conflict.part (rw c.in_ok-proof-in-Conflict.ensures at c.in_ok-part-in-Conflict.ensures) c.requires.open.at.stands.cores_path

pub renew-returns-in_ok-keep-in-Conflict-clause-found : goal.renew-returns-in_ok-keep-in-Conflict-clause-found
renew-returns-in_ok-keep-in-Conflict-clause-found t c =
    let schema = c.args.self.now.schema.now in
    let query = c.args.self.now.query.now in
    let path = c.args.state.now.path in
    let conflict : IsConflict schema query.tests path c.args.slot c.in-Conflict.core c.in-Conflict.proof = rw c.in-Conflict.is at c.in_ok-value.ensures.outcome in
    let range = longer-range schema query path c.args.state.now.values c.args.test c.args.answer c.requires.longer in
    slot-refuted schema query path c.args.state.now.learned.lists c.requires.open.at.ready.asked.below range (c.args.state.now.left - c.args.state.now.left) c.in_ok-part-in-Conflict.part c.in-Conflict.core c.in-Conflict.proof (omega arith) (rw c.in_ok-proof-in-Conflict.ensures at c.in_ok-part-in-Conflict.ensures) c.requires.open.at.ready.asked.suit (record { slot = c.args.slot; conflict = conflict })

pub renew-returns-in_ok-keep-in-Conflict-clause-restored : goal.renew-returns-in_ok-keep-in-Conflict-clause-restored
renew-returns-in_ok-keep-in-Conflict-clause-restored t c =
    let schema = c.args.self.now.schema.now in
    let query = c.args.self.now.query.now in
    let path = c.args.state.now.path in
    let stands = c.requires.open.at.stands in
    let conflict : IsConflict schema query.tests path c.args.slot c.in-Conflict.core c.in-Conflict.proof = rw c.in-Conflict.is at c.in_ok-value.ensures.outcome in
    let kept = c.in_ok-keep-in-Conflict.ensures in
    let core = slot-kept schema query.tests (asked_tree query) path c.in-Conflict.core c.in-Conflict.proof c.in_ok-part-in-Conflict.part (rw c.in_ok-proof-in-Conflict.ensures at c.in_ok-part-in-Conflict.ensures) (record { slot = c.args.slot; conflict = conflict }) in
    record {
      path = refl;
      values = refl;
      clauses = refl;
      left = omega arith;
      stands = record {
        evaluated = stands.evaluated;
        stored = stands.stored;
        cores_path = kept.path ∙ stands.cores_path;
        kept = kept-with schema query.tests c.args.state.now.cores c.in_ok-part-in-Conflict.part c.keep.new.self kept core stands.kept;
      };
      more = [];
      grows = sym (append-nil c.args.state.now.learned.lists);
    }

pub renew-returns-in_ok-path-in-TooMany-clause-found : goal.renew-returns-in_ok-path-in-TooMany-clause-found
renew-returns-in_ok-path-in-TooMany-clause-found t c =
    let schema = c.args.self.now.schema.now in
    let query = c.args.self.now.query.now in
    let path = c.args.state.now.path in
    let wide : ShowWider (patterns_at schema query.tests path c.args.slot) c.args.self.now.states c.in-TooMany.texts = rw c.in-TooMany.is at c.in_ok-value.ensures.outcome in
    let asked = longer-asked schema query path c.args.state.now.values c.args.test c.args.answer c.requires.longer c.args.slot c.requires.slot in
    wide-here schema query path c.args.state.now.learned.lists c.args.self.now.states (c.args.state.now.left - c.args.state.now.left) c.in_ok-path-in-TooMany.path c.args.slot c.in-TooMany.texts (omega arith) c.in_ok-path-in-TooMany.ensures c.requires.open.may asked wide

pub renew-returns-in_ok-path-in-TooMany-clause-restored : goal.renew-returns-in_ok-path-in-TooMany-clause-restored
renew-returns-in_ok-path-in-TooMany-clause-restored t c =
    record { path = refl; values = refl; clauses = refl; left = omega arith; stands = c.requires.open.at.stands; more = []; grows = sym (append-nil c.args.state.now.learned.lists) }

pub search-met-requires-clause-yes : goal.search-met-requires-clause-yes
search-met-requires-clause-yes t c =
    waits-for-none c.args.state.now.path (asked_tree c.args.self.now.query.now) (pick-said c.args.self.now.query.now c.args.state.now.path c.args.state.now.tree c.pick.result c.requires.open.at.stands.evaluated c.pick.ensures.value ∙ c.in_default.is) c.requires.open.may

pub search-returns-in_default-clause-found : goal.search-returns-in_default-clause-found
search-returns-in_default-clause-found t c =
    let query = c.args.self.now.query.now in
    let path = c.args.state.now.path in
    let is_yes = waits-for-none path (asked_tree query) (pick-said query path c.args.state.now.tree c.pick.result c.requires.open.at.stands.evaluated c.pick.ensures.value ∙ c.in_default.is) c.requires.open.may in
    met-here c.args.self.now.schema.now query path c.args.state.now.learned.lists (c.args.state.now.left - c.args.state.now.left) c.in_ok-met.field-0 (omega arith) c.in_ok-met.ensures is_yes

pub search-returns-in_default-clause-restored : goal.search-returns-in_default-clause-restored
search-returns-in_default-clause-restored t c = restored-same c.args.self.now c.args.state.now c.requires.open.at.stands

pub search-returns-then-state-eq0-clause-found : goal.search-returns-then-state-eq0-clause-found
search-returns-then-state-eq0-clause-found t c =
    let e = pick-said c.args.self.now.query.now c.args.state.now.path c.args.state.now.tree c.pick.result c.requires.open.at.stands.evaluated c.pick.ensures.value ∙ c.in-Some.is in
    found-short c.args.self.now c.args.state.now c.requires.open.at c.requires.carries c.is_quiet.ensures c.in-Some.test e c.if-state-eq0.true

pub search-returns-then-state-eq0-clause-restored : goal.search-returns-then-state-eq0-clause-restored
search-returns-then-state-eq0-clause-restored t c = restored-same c.args.self.now c.args.state.now c.requires.open.at.stands

pub search-side-requires : goal.search-side-requires
search-side-requires t c =
    let e = pick-said c.args.self.now.query.now c.args.state.now.path c.args.state.now.tree c.pick.result c.requires.open.at.stands.evaluated c.pick.ensures.value ∙ c.in-Some.is in
    let within = test-within c.args.self.now c.args.state.now c.requires.open.at c.requires.carries c.is_quiet.ensures c.in-Some.test e in
    let free = test-open c.args.self.now c.args.state.now c.requires.open.at c.requires.carries c.is_quiet.ensures c.in-Some.test e in
    (search (rules, c.if-state-eq0.false), (record { ready = c.requires.open.at.ready; stands = c.requires.open.at.stands; follows = c.requires.open.at.follows }, (c.requires.carries, (within, free))))

pub search-returns-in_default-yes : goal.search-returns-in_default-yes
search-returns-in_default-yes t c =
    let s = c.args.self.now in
    let state = c.args.state.now in
    let r = c.in_ok-yes.ensures.restored in
    let e = pick-said s.query.now state.path state.tree c.pick.result c.requires.open.at.stands.evaluated c.pick.ensures.value ∙ c.in-Some.is in
    record {
      found = found-yes s state c.requires.open.at c.requires.carries c.is_quiet.ensures c.in-Some.test e (omega (arith, c.if-state-eq0.false)) c.side.new.state r.left c.in_ok-yes.yes c.in_default-yes.not-Refuted c.in_ok-yes.ensures.found;
      restored = restored-split s state c.side.new.state (state.left - 1) (omega arith) r;
    }

pub search-is_needless-requires-clause-may : goal.search-is_needless-requires-clause-may
search-is_needless-requires-clause-may t c = rw c.in_ok-yes.ensures.restored.path c.requires.open.may

pub search-is_needless-requires-clause-new : goal.search-is_needless-requires-clause-new
search-is_needless-requires-clause-new t c =
    let e = pick-said c.args.self.now.query.now c.args.state.now.path c.args.state.now.tree c.pick.result c.requires.open.at.stands.evaluated c.pick.ensures.value ∙ c.in-Some.is in
    rw c.in_ok-yes.ensures.restored.path (test-open c.args.self.now c.args.state.now c.requires.open.at c.requires.carries c.is_quiet.ensures c.in-Some.test e)

pub search-is_needless-requires-clause-side : goal.search-is_needless-requires-clause-side
search-is_needless-requires-clause-side t c =
    let s = c.args.self.now in
    let state = c.args.state.now in
    let middle = c.side.new.state in
    let k = state.left - 1 - middle.left in
    let first : IsRefutedPart s.schema.now s.query.now (path_with state.path c.in-Some.test true) state.learned.lists middle.learned.lists k c.in-Refuted.yes = rw c.in-Refuted.is at c.in_ok-yes.ensures.found in
    side-made s state.path state.learned.lists k c.in-Some.test c.in-Refuted.yes middle c.in_ok-yes.ensures.restored.path first

pub search-returns-then-needless-clause-found : goal.search-returns-then-needless-clause-found
search-returns-then-needless-clause-found t c =
    let s = c.args.self.now in
    let state = c.args.state.now in
    let middle = c.side.new.state in
    let r = c.in_ok-yes.ensures.restored in
    let e = pick-said s.query.now state.path state.tree c.pick.result c.requires.open.at.stands.evaluated c.pick.ensures.value ∙ c.in-Some.is in
    let first : IsRefutedPart s.schema.now s.query.now (path_with state.path c.in-Some.test true) state.learned.lists middle.learned.lists (state.left - 1 - middle.left) c.in-Refuted.yes = rw c.in-Refuted.is at c.in_ok-yes.ensures.found in
    let closes : ClosesByStore middle.learned.lists s.schema.now s.query.now.tests (asked_tree s.query.now) (part_proof c.in-Refuted.yes) state.path = rw r.path at (c.in_ok-needless.ensures.0 c.if-needless.true) in
    found-skip s state c.requires.open.at c.requires.carries c.is_quiet.ensures c.in-Some.test e (omega (arith, c.if-state-eq0.false)) middle r.left c.in-Refuted.yes first r.stands.stored.right closes

pub search-returns-then-needless-clause-restored : goal.search-returns-then-needless-clause-restored
search-returns-then-needless-clause-restored t c = restored-split c.args.self.now c.args.state.now c.side.new.state (c.args.state.now.left - 1) (omega arith) c.in_ok-yes.ensures.restored

pub search-side-requires-2 : goal.search-side-requires-2
search-side-requires-2 t c =
    let s = c.args.self.now in
    let state = c.args.state.now in
    let r = c.in_ok-yes.ensures.restored in
    let e = pick-said s.query.now state.path state.tree c.pick.result c.requires.open.at.stands.evaluated c.pick.ensures.value ∙ c.in-Some.is in
    let within = test-within s state c.requires.open.at c.requires.carries c.is_quiet.ensures c.in-Some.test e in
    let free = test-open s state c.requires.open.at c.requires.carries c.is_quiet.ensures c.in-Some.test e in
    let middle = c.side.new.state in
    let carries : AreCarried s.schema.now s.query.now middle.path middle.values = rw (r.path, r.values) c.requires.carries in
    let follows : middle.clauses ≡ followed_at s.query.now middle.path = rw (r.path, r.clauses) c.requires.open.at.follows in
    let free_there : answer_of middle.path c.in-Some.test ≡ None = rw r.path free in
    (search (rules, c.if-state-eq0.false), (record { ready = c.requires.open.at.ready; stands = r.stands; follows = follows }, (carries, (within, free_there))))

pub search-returns-in_default-no : goal.search-returns-in_default-no
search-returns-in_default-no t c =
    let s = c.args.self.now in
    let state = c.args.state.now in
    let middle = c.side.new.state in
    let end = c.side-2.new.state in
    let r = c.in_ok-yes.ensures.restored in
    let r2 = c.in_ok-no.ensures.restored in
    let e = pick-said s.query.now state.path state.tree c.pick.result c.requires.open.at.stands.evaluated c.pick.ensures.value ∙ c.in-Some.is in
    let first : IsRefutedPart s.schema.now s.query.now (path_with state.path c.in-Some.test true) state.learned.lists middle.learned.lists (state.left - 1 - middle.left) c.in-Refuted.yes = rw c.in-Refuted.is at c.in_ok-yes.ensures.found in
    let second : IsFoundFrom s.schema.now s.query.now s.states (path_with state.path c.in-Some.test false) (spent_between middle end) c.in_ok-no.no = rw r.path at c.in_ok-no.ensures.found in
    record {
      found = found-no s state c.requires.open.at c.requires.carries c.is_quiet.ensures c.in-Some.test e (omega (arith, c.if-state-eq0.false)) middle r.left c.in-Refuted.yes first r.stands.stored.right end r2.left r2.more r2.grows c.in_ok-no.no c.in_default-no.not-Refuted second;
      restored = restored-then s state middle end (restored-split s state middle (state.left - 1) (omega arith) r) r2;
    }

pub search-joined-requires : goal.search-joined-requires
search-joined-requires t c =
    let s = c.args.self.now in
    let state = c.args.state.now in
    let middle = c.side.new.state in
    let end = c.side-2.new.state in
    let r = c.in_ok-yes.ensures.restored in
    let r2 = c.in_ok-no.ensures.restored in
    let e = pick-said s.query.now state.path state.tree c.pick.result c.requires.open.at.stands.evaluated c.pick.ensures.value ∙ c.in-Some.is in
    let first : IsRefutedPart s.schema.now s.query.now (path_with state.path c.in-Some.test true) state.learned.lists middle.learned.lists (state.left - 1 - middle.left) c.in-Refuted.yes = rw c.in-Refuted.is at c.in_ok-yes.ensures.found in
    let second : IsFoundFrom s.schema.now s.query.now s.states (path_with state.path c.in-Some.test false) (spent_between middle end) c.in_ok-no.no = rw r.path at c.in_ok-no.ensures.found in
    let other : IsRefutedPart s.schema.now s.query.now (path_with state.path c.in-Some.test false) middle.learned.lists end.learned.lists (middle.left - end.left) c.in-Refuted-no.no = rw c.in-Refuted-no.is at second in
    ready-join s state c.requires.open.at c.requires.carries c.is_quiet.ensures c.in-Some.test e (omega (arith, c.if-state-eq0.false)) middle r.left c.in-Refuted.yes first r.stands.stored.right end r2.left r2.more r2.grows c.in-Refuted-no.no other (r2.path ∙ r.path) r2.stands

pub search-returns-clause-found : goal.search-returns-clause-found
search-returns-clause-found t c =
    let s = c.args.self.now in
    let state = c.args.state.now in
    let middle = c.side.new.state in
    let end = c.side-2.new.state in
    let r = c.in_ok-yes.ensures.restored in
    let r2 = c.in_ok-no.ensures.restored in
    let e = pick-said s.query.now state.path state.tree c.pick.result c.requires.open.at.stands.evaluated c.pick.ensures.value ∙ c.in-Some.is in
    let first : IsRefutedPart s.schema.now s.query.now (path_with state.path c.in-Some.test true) state.learned.lists middle.learned.lists (state.left - 1 - middle.left) c.in-Refuted.yes = rw c.in-Refuted.is at c.in_ok-yes.ensures.found in
    let second : IsFoundFrom s.schema.now s.query.now s.states (path_with state.path c.in-Some.test false) (spent_between middle end) c.in_ok-no.no = rw r.path at c.in_ok-no.ensures.found in
    let other : IsRefutedPart s.schema.now s.query.now (path_with state.path c.in-Some.test false) middle.learned.lists end.learned.lists (middle.left - end.left) c.in-Refuted-no.no = rw c.in-Refuted-no.is at second in
    let needed : ClosesByStore middle.learned.lists s.schema.now s.query.now.tests (asked_tree s.query.now) (part_proof c.in-Refuted.yes) state.path → ⊥ = λ closes. (let bad = c.in_ok-needless.ensures.1 (rw r.path closes) in let off = c.if-needless.false in absurd (cc)) in
    (found-join s state c.requires.open.at c.requires.carries c.is_quiet.ensures c.in-Some.test e (omega (arith, c.if-state-eq0.false)) middle r.left c.in-Refuted.yes first r.stands.stored.right end r2.left r2.more r2.grows c.in-Refuted-no.no other
    c.joined.new.state c.in_ok-joined.field-0 c.requires.open.nothing needed (r2.path ∙ r.path) r2.stands c.in_ok-joined.ensures.joined).0

pub search-returns-clause-restored : goal.search-returns-clause-restored
search-returns-clause-restored t c =
    let s = c.args.self.now in
    let state = c.args.state.now in
    let middle = c.side.new.state in
    let end = c.side-2.new.state in
    let r = c.in_ok-yes.ensures.restored in
    let r2 = c.in_ok-no.ensures.restored in
    let e = pick-said s.query.now state.path state.tree c.pick.result c.requires.open.at.stands.evaluated c.pick.ensures.value ∙ c.in-Some.is in
    let first : IsRefutedPart s.schema.now s.query.now (path_with state.path c.in-Some.test true) state.learned.lists middle.learned.lists (state.left - 1 - middle.left) c.in-Refuted.yes = rw c.in-Refuted.is at c.in_ok-yes.ensures.found in
    let second : IsFoundFrom s.schema.now s.query.now s.states (path_with state.path c.in-Some.test false) (spent_between middle end) c.in_ok-no.no = rw r.path at c.in_ok-no.ensures.found in
    let other : IsRefutedPart s.schema.now s.query.now (path_with state.path c.in-Some.test false) middle.learned.lists end.learned.lists (middle.left - end.left) c.in-Refuted-no.no = rw c.in-Refuted-no.is at second in
    let needed : ClosesByStore middle.learned.lists s.schema.now s.query.now.tests (asked_tree s.query.now) (part_proof c.in-Refuted.yes) state.path → ⊥ = λ closes. (let bad = c.in_ok-needless.ensures.1 (rw r.path closes) in let off = c.if-needless.false in absurd (cc)) in
    let join = found-join s state c.requires.open.at c.requires.carries c.is_quiet.ensures c.in-Some.test e (omega (arith, c.if-state-eq0.false)) middle r.left c.in-Refuted.yes first r.stands.stored.right end r2.left r2.more r2.grows c.in-Refuted-no.no other
    c.joined.new.state c.in_ok-joined.field-0 c.requires.open.nothing needed (r2.path ∙ r.path) r2.stands c.in_ok-joined.ensures.joined in
    let j = c.in_ok-joined.ensures.joined in
    record {
      path = j.path ∙ r2.path ∙ r.path;
      values = j.values ∙ r2.values ∙ r.values;
      clauses = j.clauses ∙ r2.clauses ∙ r.clauses;
      left = let one = r.left in let two = r2.left in rw j.left (omega arith);
      stands = joined-stands s end c.joined.new.state _ c.in_ok-joined.field-0 r2.stands j join.1;
      more = join.0.made.closed.more;
      grows = join.0.made.closed.grows;
    }

pub settle-bounds-as_slice-i : goal.settle-bounds-as_slice-i
settle-bounds-as_slice-i t c =
    let h : IsHeldAt c.in_ok-slot.slot c.args.state.now.values c.in-Some.i = c.in-Some.ensures in
    rw c.as_slice-in-Some.ensures (here c.args.state.now.values c.in-Some.i c.in_ok-slot.slot h.value h.value h.there)

pub settle-offset_bounds-as_slice-i : goal.settle-offset_bounds-as_slice-i
settle-offset_bounds-as_slice-i t c =
    let h : IsHeldAt c.in_ok-slot.slot c.args.state.now.values c.in-Some.i = c.in-Some.ensures in
    let within : c.in-Some.i < length c.as_slice-in-Some.result.now = rw c.as_slice-in-Some.ensures (here c.args.state.now.values c.in-Some.i c.in_ok-slot.slot h.value h.value h.there) in
    search (rules, within)

pub settle-search-requires : goal.settle-search-requires
settle-search-requires t c =
    let schema = c.args.self.now.schema.now in
    let query = c.args.self.now.query.now in
    let h : IsHeldAt c.in_ok-slot.slot c.args.state.now.values c.in-Some.i = c.in-Some.ensures in
    let own : c.index-as_slice-test.result ≡ test_at query.tests c.args.test = own-test query.tests c.args.test c.index-as_slice-test.result c.requires.longer.within (rw c.as_slice.ensures at c.index-as_slice-test.is) in
    let says : IsTrue c.meets.result ↔ ValueMeets c.index-as_slice-i.result.1 c.index-as_slice-test.result = subst (λ (p : Slot × SlotValue). IsTrue c.meets.result ↔ ValueMeets p.1 c.index-as_slice-test.result) (sym c.index-as_slice-i.is) c.meets.ensures in
    let kept = longer-kept schema query c.args.state.now.path c.args.state.now.values c.args.test c.args.answer c.requires.longer c.index-as_slice-test.result c.in_ok-slot.slot c.in-Some.i c.index-as_slice-i.result c.meets.result own c.in_ok-slot.ensures h
    (rw c.as_slice-in-Some.ensures at c.index-as_slice-i.is) says c.if-meets-answer.true in
    (search rules, (c.requires.open, kept))

pub side-go_down-requires-clause-room : goal.side-go_down-requires-clause-room
side-go_down-requires-clause-room t c = rw c.requires.at.stands.evaluated.room c.requires.within

pub side-go_down-requires-clause-learned : goal.side-go_down-requires-clause-learned
side-go_down-requires-clause-learned t c = c.requires.at.stands.stored.path_is

pub side-go_down-requires-clause-cores : goal.side-go_down-requires-clause-cores
side-go_down-requires-clause-cores t c = c.requires.at.stands.cores_path

pub side-enter-requires : goal.side-enter-requires
side-enter-requires t c =
    let schema = c.args.self.now.schema.now in
    let query = c.args.self.now.query.now in
    let state = c.args.state.now in
    let deep = c.go_down.new.self in
    let d : IsDeeper state c.args.test c.args.answer deep = c.in_ok-go_down.ensures in
    let longer : IsLonger schema query deep.path deep.values c.args.test c.args.answer = record {
      before = state.path;
      carried = rw d.beside.values c.requires.carries;
      within = c.requires.within;
      new = c.requires.new;
      is = d.path;
    } in
    let stands : Stands c.args.self.now deep = rw d.path (at-deeper schema query state.path state deep c.args.test c.args.answer refl c.requires.new d c.requires.at.stands) in
    let behind : deep.clauses ≡ followed_at query state.path = d.beside.clauses ∙ c.requires.at.follows in
    (search (rules, d.beside.left), (c.requires.at.ready, (stands, record { longer = longer; behind = behind })))

pub side-go_back-requires : goal.side-go_back-requires
side-go_back-requires t c = rw c.in_ok-found.ensures.restored.stands.evaluated.room c.requires.within

pub side-returns-clause-found : goal.side-returns-clause-found
side-returns-clause-found t c =
    let s = c.args.self.now in
    let state = c.args.state.now in
    let d : IsDeeper state c.args.test c.args.answer c.go_down.new.self = c.in_ok-go_down.ensures in
    found-at s.schema.now s.query.now s.states _ _ _ _ c.in_ok-found.found d.path
    (spent-back s state c.go_down.new.self c.enter.new.state c.go_back.new.self c.args.test c.args.answer c.requires.new d c.in_ok-found.ensures.restored c.go_back.ensures) c.in_ok-found.ensures.found

pub side-returns-clause-restored : goal.side-returns-clause-restored
side-returns-clause-restored t c =
    restored-back c.args.self.now c.args.state.now c.go_down.new.self c.enter.new.state c.go_back.new.self c.args.test c.args.answer c.requires.new c.in_ok-go_down.ensures c.in_ok-found.ensures.restored c.go_back.ensures
