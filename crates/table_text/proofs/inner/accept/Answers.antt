use Rattle.table_text.specs.Table.{verdict}
use Rattle.table_text.proofs.Laws.{row-counted, row-text, never-row}
use mathlib.Core.Path.{refl, sym, ◌∙◌}
use Rattle.table_text.proofs.inner.accept.Goals as goal

pub returns-in-Start : goal.returns-in-Start
unfolding verdict
returns-in-Start c = let e = c.opened.ensures in record {
  verdict = e ∙ rw (c.parse_params.ensures, c.in-Start.is);
  front = λ t k. absurd (never-row c.parse_params.result t (sym e ∙ k));
  rest = refl;
}

pub returns-in-Rows : goal.returns-in-Rows
unfolding verdict
returns-in-Rows c = let line = c.args.line.now in
    let p = c.parse_row in
    let e = c.counted.ensures in record {
      verdict = e ∙ rw (p.ensures.text, c.in-Rows.is);
      front = λ t k. let x = row-text line t.count (sym p.ensures.text ∙ row-counted c.in-Rows.t t p.result (sym e ∙ k)) in p.ensures.front x.0 ∙ rw x.1;
      rest = p.ensures.rest;
    }
