use mathlib.Core.Path.{refl, ◌∙◌, ap}
use Prim.Native.Nat.{ℕ, ◌+◌}
use native.Mathlib.Omega.{arith}
use Rattle.row_search.proofs.Laws.{next, none_yet}
use Rattle.row.proofs.Laws.{next-listed, listed-none, read-inside, read_is, record-fits}
use Rattle.row.specs.Row.{peak_of}
use Rattle.row.proofs.inner.Row.put_peaks.Goals as goal

pub loop-j-init : goal.loop-j-init
loop-j-init g c = let r = c.args.self.now in
    (omega arith, refl, (λ ks h. rw (none_yet ks) (listed-none r.place r.bounds (g.M.Column.items r.mobility) (g.S.Column.items r.axis) r.y.now r.z.now c.args.first g.W.Written.form c.args.out.now)))

pub peak_of-requires : goal.peak_of-requires
peak_of-requires g c = let x = c.args.self.now in
    let r = c.requires.room.2 in
    let t = c.requires.apexes.1.1 in
    read-inside x.y.now x.z.now (g.S.Column.items x.axis) c.args.found.now c.requires.apexes.1.0 c.loop-j.j c.measured_at-a.result
    (next x.y.now x.z.now c.args.found.now c.requires.apexes.1.0 c.loop-j.j (omega (arith, t.count)) t.stand) c.measured_at-a.ensures r.raw r.scans r.short

pub put_record-requires : goal.put_record-requires
put_record-requires g c = record-fits g.W.Written.form c.loop-j.j c.requires.room.0 _ (omega (arith, c.requires.room.2.words, c.requires.apexes.0)) (rw c.loop-j.invariant.1 c.requires.room.1)

pub loop-j-preserved : goal.loop-j-preserved
loop-j-preserved g c = let x = c.args.self.now in
    let f = c.args.found.now in
    let axis = g.S.Column.items x.axis in
    let j = c.loop-j.j in
    let inv = c.loop-j.invariant in (
      omega arith,
      c.put_record.auto.out ∙ inv.1,
      (λ ks h.
          let n = next x.y.now x.z.now f ks j (omega (arith, h.count)) h.stand in
          next-listed x.place x.bounds (g.M.Column.items x.mobility) axis x.y.now x.z.now c.args.first g.W.Written.form f ks c.args.out.now c.loop-j.out c.put_record.new.out j c.peak_of.result n (inv.2 ks h)
          (c.peak_of.ensures ∙ ap (λ (i : ℕ). peak_of x.place x.bounds (g.M.Column.items x.mobility) axis x.y.now x.z.now i (c.args.first + j)) (read_is x.y.now x.z.now axis f ks j c.measured_at-a.result n c.measured_at-a.ensures))
          c.put_record.ensures),
    )
