-- Readers one after another: a fault of one is the first of all where those before it have none.
use Rattle.std.proofs.Common.{◌≡◌, List, [], ◌∷◌, ◌++◌, Bool, true, false, Option, None, Some, Result, Ok, Err, refl, ap, subst, sym, ◌∙◌, if◌then◌else◌}
use Rattle.std.specs.Result.{IsErrAnd}
use Rattle.json_shapes.specs.Checks.{Check, first_fault, IsReadOf, IsRefusal}
use Rattle.json_shapes.specs.declared.read_error.ReadError.{ReadError}
use Rattle.json_shapes.specs.declared.read_error.ReadError.TheVariants.{Refused, NoMemory}
use Rattle.json_shapes.proofs.Faults.{first_fault-front, first_fault-rest}

-- several parts that are passed
pub passed_two : {F : Type 0} (a b rest : List (Check F)) → first_fault a ≡ None → first_fault b ≡ None → first_fault (a ++ (b ++ rest)) ≡ first_fault rest
passed_two a b rest p q = first_fault-rest a (b ++ rest) p ∙ first_fault-rest b rest q

pub passed_three : {F : Type 0} (a b c rest : List (Check F)) → first_fault a ≡ None → first_fault b ≡ None → first_fault c ≡ None → first_fault (a ++ (b ++ (c ++ rest))) ≡ first_fault rest
passed_three a b c rest p q r = first_fault-rest a (b ++ (c ++ rest)) p ∙ passed_two b c rest q r

pub passed_four : {F : Type 0} (a b c d rest : List (Check F)) → first_fault a ≡ None → first_fault b ≡ None → first_fault c ≡ None → first_fault d ≡ None → first_fault (a ++ (b ++ (c ++ (d ++ rest)))) ≡ first_fault rest
passed_four a b c d rest p q r s = first_fault-rest a (b ++ (c ++ (d ++ rest))) p ∙ passed_three b c d rest q r s

pub passed_five : {F : Type 0} (a b c d e rest : List (Check F)) → first_fault a ≡ None → first_fault b ≡ None → first_fault c ≡ None → first_fault d ≡ None → first_fault e ≡ None → first_fault (a ++ (b ++ (c ++ (d ++ (e ++ rest))))) ≡ first_fault rest
passed_five a b c d e rest p q r s t = first_fault-rest a (b ++ (c ++ (d ++ (e ++ rest)))) p ∙ passed_four b c d e rest q r s t

-- the answer is a refusal by these checks, or want of memory
abbrev pub Refuses : {F : Type 0} → List (Check F) → ReadError F → Type 0
Refuses checks e = IsReadOf checks (tt {0}) (Err e)

refuses-front : {F : Type 0} (next rest : List (Check F)) (e : ReadError F) → Refuses next e → Refuses (next ++ rest) e
refuses-front next rest (Refused fault) is = first_fault-front next rest fault is
refuses-front next rest NoMemory is = is

at_err : {F Y : Type 0} (all last : List (Check F)) (wanted : Y) (e : ReadError F) → first_fault all ≡ first_fault last → Refuses last e → IsReadOf {X = Y} all wanted (Err e)
at_err all last wanted (Refused fault) same is = same ∙ is
at_err all last wanted NoMemory same is = tt

-- where the last part is refused, all is
pub refused_last : {F Y : Type 0} (all last : List (Check F)) (wanted : Y) (e : ReadError F) (answer : Result Y (ReadError F)) → first_fault all ≡ first_fault last → Refuses last e → IsErrAnd answer (λ given. given ≡ e) → IsReadOf all wanted answer
refused_last all last wanted e (Ok x) same is given = absurd given
refused_last {F} {Y} all last wanted e (Err given) same is as_given = subst (λ (a : ReadError F). IsReadOf {X = Y} all wanted (Err a)) (sym as_given) (at_err all last wanted e same is)

-- where the next part is refused, all is
pub refused : {F Y : Type 0} (all next rest : List (Check F)) (wanted : Y) (e : ReadError F) (answer : Result Y (ReadError F)) → first_fault all ≡ first_fault (next ++ rest) → Refuses next e → IsErrAnd answer (λ given. given ≡ e) → IsReadOf all wanted answer
refused all next rest wanted e answer same is given = refused_last all (next ++ rest) wanted e answer same (refuses-front next rest e is) given

-- behind parts that are passed, the answer of the rest is that of all
pub continued : {F Y : Type 0} (all rest : List (Check F)) (meaning : Y) (answer : Result Y (ReadError F)) → first_fault all ≡ first_fault rest → IsReadOf rest meaning answer → IsReadOf all meaning answer
continued all rest meaning (Ok x) same is = (same ∙ is.0, is.1)
continued all rest meaning (Err (Refused fault)) same is = same ∙ is
continued all rest meaning (Err NoMemory) same is = tt

-- the first fault of the checks is what a reader refuses with
pub refused_first : {F X : Type 0} (checks : List (Check F)) (meaning : X) (fault : F) (e : ReadError F) → IsRefusal fault e → first_fault checks ≡ Some fault → IsReadOf {X = X} checks meaning (Err e)
refused_first checks meaning fault (Refused given) is first = first ∙ ap (λ f. Some f) (sym is)
refused_first checks meaning fault NoMemory is first = tt

whole_refused : {F X Y : Type 0} (part whole : List (Check F)) (x : X) (y : Y) (e : ReadError F) → ((fault : F) → first_fault part ≡ Some fault → first_fault whole ≡ Some fault) → IsReadOf {X = X} part x (Err e) → IsReadOf {X = Y} whole y (Err e)
whole_refused part whole x y (Refused given) moves is = moves given is
whole_refused part whole x y NoMemory moves is = tt

-- what a part is refused with, the whole is, where the first fault of the part is that of the whole
pub refused_whole : {F X Y : Type 0} (part whole : List (Check F)) (x : X) (y : Y) (e : ReadError F) (answer : Result Y (ReadError F)) → IsErrAnd answer (λ given. given ≡ e) → ((fault : F) → first_fault part ≡ Some fault → first_fault whole ≡ Some fault) → IsReadOf {X = X} part x (Err e) → IsReadOf {X = Y} whole y answer
refused_whole part whole x y e (Ok z) exit moves is = absurd exit
refused_whole {F} {X} {Y} part whole x y e (Err given) exit moves is = subst (λ (a : ReadError F). IsReadOf {X = Y} whole y (Err a)) (sym exit) (whole_refused {X = X} {Y = Y} part whole x y e moves is)

at_none : {F : Type 0} (b : Bool) (own : F) (rest : Option F) → (if b then rest else Some own) ≡ None → (b ≡ true) × (rest ≡ None)
at_none true own rest e = (refl, e)
at_none false own rest e = absurd (cc)

-- checks that are passed, one by one
pub passes_one : {F : Type 0} (a : Check F) → first_fault (a ∷ []) ≡ None → a.passes ≡ true
passes_one a e = (at_none a.passes a.fault None e).0

pub passes_two : {F : Type 0} (a b : Check F) → first_fault (a ∷ b ∷ []) ≡ None → (a.passes ≡ true) × (b.passes ≡ true)
passes_two a b e =
    let first = at_none a.passes a.fault (first_fault (b ∷ [])) e in
    (first.0, passes_one b first.1)

pub passes_four : {F : Type 0} (a b c d : Check F) → first_fault (a ∷ b ∷ c ∷ d ∷ []) ≡ None → (a.passes ≡ true) × (b.passes ≡ true) × (c.passes ≡ true) × (d.passes ≡ true)
passes_four a b c d e =
    let first = at_none a.passes a.fault (first_fault (b ∷ c ∷ d ∷ [])) e in
    let second = at_none b.passes b.fault (first_fault (c ∷ d ∷ [])) first.1 in
    let others = passes_two c d second.1 in
    (first.0, second.0, others.0, others.1)

-- a part by what it depends on, where that is known under another name
pub refuses_at : {F K : Type 0} (part : K → List (Check F)) (k l : K) (e : ReadError F) → k ≡ l → Refuses (part k) e → Refuses (part l) e
refuses_at part k l e same is = subst (λ x. Refuses (part x) e) same is

pub passes_at : {F K : Type 0} (part : K → List (Check F)) (k l : K) → k ≡ l → first_fault (part k) ≡ None → first_fault (part l) ≡ None
passes_at part k l same is = subst (λ x. first_fault (part x) ≡ None) same is
