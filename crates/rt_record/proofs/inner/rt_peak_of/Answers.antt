use native.Mathlib.Nat.{mul-one}
use Rattle.row_record.proofs.Missing.{some_then, unwrap_then, bit-is}
use Rattle.rt_record.specs.RtRecord.{group_word, rt_peak_of}
use Rattle.rt_record.proofs.inner.rt_peak_of.Goals as goal

pub returns : goal.returns
unfolding rt_peak_of group_word
returns c = simp (c.from.ensures, c.is_some.ensures, c.unwrap_or.ensures, c.group-group.ensures, some_then, unwrap_then, mul-one, bit-is)
