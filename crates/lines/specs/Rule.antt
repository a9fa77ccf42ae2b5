-- Rule lines.
use Rattle.std.specs.Prelude.{true, [], ◌∷◌, ◌==◌, slice_index}
use Rattle.lines.specs.declared.rule.Rule.{Rule}
use Rattle.lines.specs.Line.{Form}

-- A rule line is one word of any value.
abbrev pub rule_form : Form Rule
rule_form = record {
  width = 1;
  encode = λ l. l.0 ∷ [];
  decode = λ ws. record { 0 = slice_index ws 0 };
  written = λ _. true;
  same = λ l m. (l.0 == m.0);
}
