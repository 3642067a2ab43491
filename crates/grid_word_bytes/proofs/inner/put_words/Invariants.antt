use Rattle.grid_word_bytes.specs.Bytes.{bytes_of}
use mathlib.Core.Path.{◌≡◌}
use mathlib.Core.List.{◌++◌}
use Prim.Native.Nat.{◌*◌}
use lib.ListN.{length, drop, take}
use Rattle.grid_word_bytes.proofs.inner.put_words.Given as goal

abbrev pub invariant-loop-i : goal.invariant-loop-i
invariant-loop-i l = (length l.out ≡ length l.initial.out) × (l.out ≡ bytes_of (take l.i l.ws) ++ drop (l.i * 4) l.initial.out)
