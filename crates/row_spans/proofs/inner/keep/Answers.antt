use Rattle.row_spans.specs.Memo.{kept_span}
use lib.Seq.{drop-drop}
use Rattle.row_spans.proofs.Laws.{word-new, word-old}
use borrow.Rule.Slice.PartMut.{put_mid}
use mathlib.Core.Path.{◌≡◌, ap}
use mathlib.Core.List.{[], ◌∷◌, ◌++◌}
use Prim.Native.Nat.{ℕ, ◌≤◌, ◌<◌, ◌-◌, ◌+◌, ◌*◌}
use native.Mathlib.Omega.{arith}
use lib.ListN.{length, get_or, drop, take}
use Rattle.row_spans.proofs.inner.keep.Goals as goal

pub returns : goal.returns
unfolding kept_span
returns c = let args = c.args in
    let memo = args.memo.now in
    let x = args.s in
    let R = c.kept_word-height.result ∷ args.from ∷ args.to ∷ x.left ∷ x.right ∷ x.width ∷ c.kept_word-left_x.result ∷ c.kept_word-right_x.result ∷ c.kept_word-area.result ∷ [] in
    let a = args.t * 9 in
    let after = put_mid a (a + 9 - a) memo c.copy_from_slice.new.self in
    let l : a ≤ length memo = omega arith in
    let nine : a + 9 - a ≡ 9 = omega arith in
    let e : after ≡ take a memo ++ (R ++ drop (a + 9) memo) = rw (nine, c.copy_from_slice.ensures.after) (ap (λ x. take a memo ++ (R ++ x)) (drop-drop 9 a memo)) in
    let w : (j : ℕ) → j < 9 → get_or after (a + j) 0 ≡ get_or R j 0 = word-new memo R (drop (a + 9) memo) after a l e in
    record {
      height = rw (w 0 (omega arith)) c.kept_word-height.ensures.tells;
      left = w 1 (omega arith);
      right = w 2 (omega arith);
      span = simp (w 3 (omega arith), w 4 (omega arith), w 5 (omega arith), w 6 (omega arith), w 7 (omega arith), w 8 (omega arith), c.kept_word-left_x.ensures.tells, c.kept_word-right_x.ensures.tells, c.kept_word-area.ensures.tells);
      others = word-old memo R (drop (a + 9) memo) after a l e;
    }
