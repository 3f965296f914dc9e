use Rattle.std.proofs.Common.{rules, sym, ◌∙◌}
use borrow.Author.Tests.{tests}
use Rattle.std.proofs.lemmas.Iterator.{YieldsList-from_slice}
use Rattle.std.proofs.lemmas.Iterator.Search.{all_from_yields_List}
use Rattle.std.proofs.lemmas.List.Folds.{list_all-map}
use Rattle.serde_json.specs.View.{view}
use Rattle.serde_json.specs.declared.value.Value.{Value}
use Rattle.json_shapes.specs.Shapes.{is_string}
use Rattle.json_shapes.proofs.Finding.{is_string-as_str}
use Rattle.json_shapes.proofs.elements.are_strings.Goals as goal

pub returns : goal.returns
returns c =
    all_from_yields_List (λ (v : Value). is_string (view v)) _ _ _ c.all.ensures.ran (YieldsList-from_slice c.args.values.now cc) (λ x b q k. search (rules, tests, is_string-as_str)) ∙ sym (list_all-map is_string view c.args.values.now)
