use Rattle.table_job.proofs.Laws.{lines-done}
use Rattle.table_job.proofs.inner.Job.lines.Goals as goal

pub returns : goal.returns
returns c =
    let f = c.put_lines-f in
    let d = lines-done c.args.buf.now c.args.out.now f.new.out c.args.self f.result c.requires.0 c.requires.1 f.auto.out f.ensures.put f.ensures.through in
    record { within = d.within; keeps = d.keeps; through = d.through; refused = d.refused }
