-- Literals that were decided one after another, each with its reason.
use Rattle.std.proofs.Common.{◌≡◌, ℕ, List, [], ◌∷◌, ◌++◌, length, take, get_or, zero, suc, map, Bool, true, false, Option, Some, None, refl, sym, ap, subst, ◌∙◌, slice_get, append_assoc, append-nil}
use Rattle.std.specs.Prelude.{IfSome, IfNone}
use Rattle.std.proofs.lemmas.List.{map_push}
use Rattle.formula_tree.specs.Answers.{Answers, Contained}
use Rattle.cnf_clauses.specs.declared.clause.Found.TheVariants.{Refuted, Unit}
use Rattle.cnf_clauses.specs.Literals.{Clause, Literal, IsUnit}
use Rattle.cnf_clauses.specs.Found.{FindsAt}
use Rattle.cnf_clauses.specs.Reasons.{IsReason, HaveReasons, AreDerived, AreRefuted, Derives}
use Rattle.cnf_clauses.specs.Explains.{IsRefutedAt}
use Rattle.cnf_clauses.specs.Propagates.{AreQuiet, Unless}
use Rattle.cnf_clauses.specs.Trails.{IsNoted}
use Rattle.cnf_clauses.proofs.Hinting.{found-refuted, found-unit}

pub reasons-more : (cs : List Clause) (p before d : Answers) (r : List (Option ℕ)) (e : Answers) (q : List (Option ℕ)) → HaveReasons cs p before d r → HaveReasons cs p (before ++ d) e q →
    HaveReasons cs p before (d ++ e) (r ++ q)
reasons-more cs p before [] [] e q h g = subst (λ (x : Answers). HaveReasons cs p x e q) (append-nil before) g
reasons-more cs p before [] (y ∷ r) e q h g = absurd h
reasons-more cs p before (l ∷ d) [] e q h g = absurd h
reasons-more cs p before (l ∷ d) (y ∷ r) e q h g = (
  h.0,
  reasons-more cs p (before ++ l ∷ []) d r e q h.1 (subst (λ (x : Answers). HaveReasons cs p x e q) (sym (append_assoc before (l ∷ []) d)) g),
)

reason-path : (cs : List Clause) (p q before : Answers) (l : Literal) (r : Option ℕ) → Contained p q → IsReason cs p before l r → IsReason cs q before l r
reason-path cs p q before l None inside h = inside l.0 l.1 h
reason-path cs p q before l (Some n) inside h = h

-- a longer path keeps the reasons
pub reasons-path : (cs : List Clause) (p q before d : Answers) (r : List (Option ℕ)) → Contained p q → HaveReasons cs p before d r → HaveReasons cs q before d r
reasons-path cs p q before [] [] inside h = h
reasons-path cs p q before [] (y ∷ r) inside h = absurd h
reasons-path cs p q before (l ∷ d) [] inside h = absurd h
reasons-path cs p q before (l ∷ d) (y ∷ r) inside h = (reason-path cs p q before l y inside h.0, reasons-path cs p q (before ++ l ∷ []) d r inside h.1)

-- the one at an index
pub reasons-at : (cs : List Clause) (p before d : Answers) (r : List (Option ℕ)) (i : ℕ) (l : Literal) → HaveReasons cs p before d r → slice_get d i ≡ Some l → IsReason cs p (before ++ take i d) l (get_or r i None)
reasons-at cs p before [] r i l h e = absurd (cc)
reasons-at cs p before (x ∷ d) [] i l h e = absurd h
reasons-at cs p before (x ∷ d) (y ∷ r) zero l h e =
    let same : x ≡ l = cc in
    let here : IsReason cs p before l y = subst (λ (z : Literal). IsReason cs p before z y) same h.0 in
    subst (λ (z : Answers). IsReason cs p z l y) (sym (append-nil before)) here
reasons-at cs p before (x ∷ d) (y ∷ r) (suc i) l h e =
    subst (λ (z : Answers). IsReason cs p z l (get_or r i None)) (append_assoc before (x ∷ []) (take i d)) (reasons-at cs p (before ++ x ∷ []) d r i l h.1 e)

pub reasons-length : (cs : List Clause) (p before d : Answers) (r : List (Option ℕ)) → HaveReasons cs p before d r → length r ≡ length d
reasons-length cs p before [] [] h = refl
reasons-length cs p before [] (y ∷ r) h = absurd h
reasons-length cs p before (l ∷ d) [] h = absurd h
reasons-length cs p before (l ∷ d) (y ∷ r) h = ap suc (reasons-length cs p (before ++ l ∷ []) d r h.1)

-- ---- what propagation derives

derived-unit : (cs : List Clause) (start d newd : Answers) (h newh : List ℕ) (n v : ℕ) (b : Bool) → FindsAt cs d n (Unit v b) → newh ≡ h ++ n ∷ [] → newd ≡ d ++ (v, b) ∷ [] →
    AreDerived cs start h d → AreDerived cs start newh newd
derived-unit cs start d newd h newh n v b f e g old =
    let (c, there, u) = found-unit cs d n v b f in
    let under : IsUnit (start ++ old.added) c (v, b) = subst (λ (x : Answers). IsUnit x c (v, b)) old.grows u in
    let more : HaveReasons cs [] start (old.added ++ (v, b) ∷ []) (map Some h ++ Some n ∷ []) =
    reasons-more cs [] start old.added (map Some h) ((v, b) ∷ []) (Some n ∷ []) old.reasons ((c, there, under), tt) in
    record {
      added = old.added ++ (v, b) ∷ [];
      grows = g ∙ ap (λ (x : Answers). x ++ (v, b) ∷ []) old.grows ∙ append_assoc start old.added ((v, b) ∷ []);
      reasons = rw (e, map_push Some h n) more;
    }

pub settle-derives : (cs : List Clause) (d newd : Answers) (h newh : List ℕ) (n v : ℕ) (b : Bool) → FindsAt cs d n (Unit v b) → newh ≡ h ++ n ∷ [] → newd ≡ d ++ (v, b) ∷ [] → Derives cs h d newh newd false
settle-derives cs d newd h newh n v b f e g start old = derived-unit cs start d newd h newh n v b f e g old

pub settle-meets : (cs : List Clause) (d : Answers) (h newh : List ℕ) (n : ℕ) → FindsAt cs d n Refuted → newh ≡ h ++ n ∷ [] → Derives cs h d newh d true
settle-meets cs d h newh n f e start old =
    let (c, there, all) = found-refuted cs d n f in
    record { front = h; last = n; clause = c; parts = e; derived = old; there = there; refuted = all }

-- one step after another
pub derives-on : (cs : List Clause) (h1 h2 h3 : List ℕ) (d1 d2 d3 : Answers) (met : Bool) → Derives cs h1 d1 h2 d2 false → Derives cs h2 d2 h3 d3 met → Derives cs h1 d1 h3 d3 met
derives-on cs h1 h2 h3 d1 d2 d3 true first second = λ start old. second start (first start old)
derives-on cs h1 h2 h3 d1 d2 d3 false first second = λ start old. second start (first start old)

pub derives-is : (cs : List Clause) (h1 h2 : List ℕ) (d1 d2 : Answers) (met b : Bool) → Derives cs h1 d1 h2 d2 met → met ≡ b → Derives cs h1 d1 h2 d2 b
derives-is cs h1 h2 d1 d2 met b h e = subst (λ (x : Bool). Derives cs h1 d1 h2 d2 x) e h

-- ---- what is noted of it

nothing-derived : (cs : List Clause) (d : Answers) (h : List ℕ) → h ≡ [] → AreDerived cs d h d
nothing-derived cs d h e = rw e (record { added = []; grows = sym (append-nil d); reasons = tt })

derived-keeps : (cs : List Clause) (path d0 d1 : Answers) (r0 r1 : List (Option ℕ)) (h : List ℕ) → AreDerived cs d0 h d1 → r1 ≡ r0 ++ map Some h → HaveReasons cs path [] d0 r0 → HaveReasons cs path [] d1 r1
derived-keeps cs path d0 d1 r0 r1 h derived e old =
    let more : HaveReasons cs path d0 derived.added (map Some h) = reasons-path cs [] path d0 derived.added (map Some h) (λ n b none. absurd (cc)) derived.reasons in
    rw (e, derived.grows) (reasons-more cs path [] d0 r0 derived.added (map Some h) old more)

pub noted-keeps : (cs : List Clause) (d0 d1 : Answers) (r0 r1 : List (Option ℕ)) (h0 h : List ℕ) (met : Bool) (o : Option ℕ) → h0 ≡ [] → Derives cs h0 d0 h d1 met → IsNoted h met r0 r1 o →
    (path : Answers) → HaveReasons cs path [] d0 r0 → HaveReasons cs path [] d1 r1
noted-keeps cs d0 d1 r0 r1 h0 h true o e derives noted path old =
    let end : AreRefuted cs d0 h d1 = derives d0 (nothing-derived cs d0 h0 e) in
    derived-keeps cs path d0 d1 r0 r1 end.front end.derived (noted end.front end.last end.parts).1 old
noted-keeps cs d0 d1 r0 r1 h0 h false o e derives noted path old =
    derived-keeps cs path d0 d1 r0 r1 h (derives d0 (nothing-derived cs d0 h0 e)) noted.1 old

pub noted-met : (cs : List Clause) (d0 d1 : Answers) (r0 r1 : List (Option ℕ)) (h0 h : List ℕ) (met : Bool) (o : Option ℕ) → h0 ≡ [] → Derives cs h0 d0 h d1 met → IsNoted h met r0 r1 o → IfSome o (IsRefutedAt cs d1)
noted-met cs d0 d1 r0 r1 h0 h true o e derives noted =
    let end : AreRefuted cs d0 h d1 = derives d0 (nothing-derived cs d0 h0 e) in
    subst (λ (x : Option ℕ). IfSome x (IsRefutedAt cs d1)) (sym (noted end.front end.last end.parts).0) (end.clause, end.there, end.refuted)
noted-met cs d0 d1 r0 r1 h0 h false o e derives noted = subst (λ (x : Option ℕ). IfSome x (IsRefutedAt cs d1)) (sym noted.0) tt

pub noted-quiet : (cs : List Clause) (d0 d1 : Answers) (r0 r1 : List (Option ℕ)) (h0 h : List ℕ) (met : Bool) (o : Option ℕ) → h0 ≡ [] → Derives cs h0 d0 h d1 met → IsNoted h met r0 r1 o →
    Unless (AreQuiet cs d1 d1) met → IfNone o (AreQuiet cs d1 d1)
noted-quiet cs d0 d1 r0 r1 h0 h true o e derives noted quiet =
    let end : AreRefuted cs d0 h d1 = derives d0 (nothing-derived cs d0 h0 e) in
    subst (λ (x : Option ℕ). IfNone x (AreQuiet cs d1 d1)) (sym (noted end.front end.last end.parts).0) tt
noted-quiet cs d0 d1 r0 r1 h0 h false o e derives noted quiet = subst (λ (x : Option ℕ). IfNone x (AreQuiet cs d1 d1)) (sym noted.0) (quiet refl)
