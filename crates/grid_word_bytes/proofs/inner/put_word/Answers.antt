use Rattle.grid_word_bytes.specs.Bytes.{with_word}
use Prim.Native.Nat.{◌*◌, ◌+◌, ◌-◌}
use native.Mathlib.Omega.{arith}
use mathlib.Core.Path.{◌≡◌, refl}
use Rattle.std.proofs.lemmas.List.{drop-drop}
use Rattle.grid_word_bytes.proofs.inner.put_word.Goals as goal

pub returns : goal.returns
unfolding with_word
returns c = let m : c.args.k * 4 + 4 - c.args.k * 4 ≡ 4 = omega arith in rw (m, c.copy_from_slice.ensures.after, c.to_le_bytes.ensures, ← drop-drop 4 (c.args.k * 4) c.args.b.now) refl
