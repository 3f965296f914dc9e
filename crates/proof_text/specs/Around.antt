-- Where a node stands, and what its first line says.
use Rattle.std.specs.Prelude.{◌≤◌, ℕ, List, length, slice_index, ◌<◌}
use Rattle.proof_text.specs.LineForms.{Expected, ExpectNode}
use Rattle.proof_text.specs.Lines.{Line, split_line, value_line, slot_line, clauses_line, label_line, reuse_line}
use Rattle.proof_text.specs.declared.lines.Around.{Around}
use Rattle.proof_text.specs.declared.lines.NodeLine.{NodeLine}
use Rattle.proof_text.specs.declared.lines.NodeLine.TheVariants.{Split, Value, Slot, Clauses, Label, Reuse}

-- the node that must stand there
abbrev pub node_here : Around → Expected
node_here around = ExpectNode around.depth around.inside.now

-- the line that says so
abbrev pub node_line_value : NodeLine → Line
node_line_value (Split n) = split_line n
node_line_value Value = value_line
node_line_value (Slot core) = slot_line core
node_line_value (Clauses hints) = clauses_line hints
node_line_value (Label n answers) = label_line n answers
node_line_value (Reuse n) = reuse_line n

-- numbers of labels, each inside of those before it
abbrev pub IsRising : List ℕ → Type 0
IsRising ns = (i j : ℕ) → i ≤ j → j < length ns → slice_index ns i ≤ slice_index ns j

-- the labels that a node is inside of, of so many that began before it
pub record AreAround (inside : List ℕ) (begun : ℕ) : Type 0 where
  pub rising : IsRising inside
  pub below : (k : ℕ) → k < length inside → slice_index inside k ≤ begun
