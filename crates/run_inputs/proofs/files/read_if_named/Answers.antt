use Rattle.std.proofs.Common.{◌≡◌, ◌∙◌, ◌∷◌, ℕ, List, [], Option, Some, ap, option_map, subst, sym}
use Rattle.std.specs.Prelude.{string_bytes}
use Rattle.std.proofs.lemmas.Result.{err_from_is_err_and}
use Rattle.run_inputs.specs.Readings.{AreRead, IsCalm, Reading, if_named, reading_of}
use Rattle.run_inputs.proofs.FileLaws.{calm_still, named_failed}
use Rattle.run_inputs.proofs.files.read_if_named.Goals as goal

pub returns-in_err-read_file-in-Some-clause-reads : goal.returns-in_err-read_file-in-Some-clause-reads
returns-in_err-read_file-in-Some-clause-reads g c =
    let named : Option (List ℕ) = option_map (λ n. string_bytes n) c.args.name.now in
    let is : named ≡ Some c.as_str.result.now = ap (option_map (λ n. string_bytes n)) c.in-Some.is ∙ ap Some (sym c.as_str.ensures.value) in
    let r : Reading = reading_of g.F.Folder.held g.F.Folder.faults g.F.Folder.last_fault g.F.Folder.asked c.args.folder.now c.read_file.new.folder in
    let p = err_from_is_err_and c.from_residual.result c.from_residual.ensures.1 in
    rw (p.1, p.2) (named_failed c.args.role named c.as_str.result.now is _ r c.in_err-read_file-in-Some.ensures.reads)

pub returns-in_ok-read_file-in-Some-clause-reads : goal.returns-in_ok-read_file-in-Some-clause-reads
returns-in_ok-read_file-in-Some-clause-reads g c =
    let named : Option (List ℕ) = option_map (λ n. string_bytes n) c.args.name.now in
    let is : named ≡ Some c.as_str.result.now = ap (option_map (λ n. string_bytes n)) c.in-Some.is ∙ ap Some (sym c.as_str.ensures.value) in
    let r : Reading = reading_of g.F.Folder.held g.F.Folder.faults g.F.Folder.last_fault g.F.Folder.asked c.args.folder.now c.read_file.new.folder in
    subst (λ (o : Option (List ℕ)). AreRead r.held (if_named c.args.role o) (c.in_ok-read_file-in-Some.field-0.items ∷ []) × IsCalm (if_named c.args.role o) r) (sym is)
    c.in_ok-read_file-in-Some.ensures.reads

pub returns-in-None-clause-reads : goal.returns-in-None-clause-reads
returns-in-None-clause-reads g c =
    let r : Reading = reading_of g.F.Folder.held g.F.Folder.faults g.F.Folder.last_fault g.F.Folder.asked c.args.folder.now c.args.folder.now in
    subst (λ (o : Option (List ℕ)). AreRead r.held (if_named c.args.role o) [] × IsCalm (if_named c.args.role o) r) (sym (ap (option_map (λ n. string_bytes n)) c.in-None.is))
    (tt, calm_still g.F.Folder.held g.F.Folder.faults g.F.Folder.last_fault g.F.Folder.asked c.args.folder.now)
