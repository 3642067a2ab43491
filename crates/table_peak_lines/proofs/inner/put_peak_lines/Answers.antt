use mathlib.Core.Path.{◌≡◌, refl, ◌∙◌, ap}
use mathlib.Core.List.{[]}
use Prim.Native.Nat.{ℕ}
use native.Mathlib.Omega.{arith}
use lib.ListN.{length, replicate, length-replicate}
use Rattle.row_params.specs.declared.RowPlace.{RowPlace}
use Rattle.row_params.specs.declared.FrameBounds.{FrameBounds}
use Rattle.row_search.specs.Found.{oldest}
use Rattle.row_search.proofs.Laws.{next, none_yet}
use Rattle.row.specs.Row.{peak_of}
use Rattle.row.proofs.Laws.{read-inside, read_is}
use Rattle.table_peak_lines.specs.RowLines.{place_of, no_frames, printed_peak}
use Rattle.table_peak_lines.proofs.Laws.{lines-most, printed-none, next-printed, on-zeros, on_none}
use Rattle.table_peak_lines.proofs.inner.put_peak_lines.Goals as goal

pub loop-j-init : goal.loop-j-init
loop-j-init c = let x = c.args in
    (omega arith, refl, (λ ks h. rw (none_yet ks) (printed-none x.tof_row x.y.now x.out.now)))

pub peak_on-peak-requires : goal.peak_on-peak-requires
peak_on-peak-requires c = let x = c.args in
    let ks = c.requires.2.0 in
    let t = c.requires.2.1 in
    let r = read-inside x.y.now x.y.now (replicate (length x.y.now) 0) x.found.now ks c.loop-j.j c.measured_at-a.result
    (next x.y.now x.y.now x.found.now ks c.loop-j.j (omega (arith, t.count)) t.stand) c.measured_at-a.ensures refl (length-replicate (length x.y.now) 0) (omega (arith, c.requires.0.short)) in
    (r.low, r.high, refl, r.short)

pub append_line-at-requires : goal.append_line-at-requires
append_line-at-requires c = let x = c.args in
    let ks = c.requires.2.0 in
    let t = c.requires.2.1 in
    let j = c.loop-j.j in
    let k = next x.y.now x.y.now x.found.now ks j (omega (arith, t.count)) t.stand in
    omega (arith, (c.loop-j.invariant.2 ks t).count, lines-most x.tof_row x.y.now (oldest j ks), k.count, c.loop-j.invariant.1, c.requires.1, c.requires.0.bytes)

pub loop-j-preserved : goal.loop-j-preserved
loop-j-preserved c = let x = c.args in
    let y = x.y.now in
    let none = replicate {A = ℕ} (length y) 0 in
    let j = c.loop-j.j in
    let inv = c.loop-j.invariant in
    let i = c.measured_at-a.result.index in
    let ks₀ = c.requires.2.0 in
    let t = c.requires.2.1 in
    let r = read-inside y y none x.found.now ks₀ j c.measured_at-a.result (next y y x.found.now ks₀ j (omega (arith, t.count)) t.stand) c.measured_at-a.ensures refl (length-replicate (length y) 0) (omega (arith, c.requires.0.short)) in
    let e : c.peak_on-peak.result ≡ peak_of (place_of x.tof_row) no_frames [] none y y i 0 =
    c.peak_on-peak.ensures [] none r (c.no_axes-on.ensures ∙ on-zeros (length y) c.measured_at-a.result)
    ∙ ap (λ (r : RowPlace). peak_of r c.no_frames-bounds.result [] none y y i 0) c.place_of-place.ensures
    ∙ ap (λ (f : FrameBounds). peak_of (place_of x.tof_row) f [] none y y i 0) c.no_frames-bounds.ensures in (
      omega arith,
      c.append_line-at.auto.out ∙ inv.1,
      (λ ks h.
          let n = next y y x.found.now ks j (omega (arith, h.count)) h.stand in
          next-printed x.tof_row y x.found.now ks x.out.now c.loop-j.out c.append_line-at.new.out j c.loop-j.at c.append_line-at.result c.peak_on-peak.result n (inv.2 ks h)
          (e ∙ on_none x.tof_row y i ∙ ap (λ (k : ℕ). printed_peak x.tof_row y k) (read_is y y none x.found.now ks j c.measured_at-a.result n c.measured_at-a.ensures))
          c.append_line-at.ensures.value
          c.append_line-at.ensures.out_after),
    )
