use Rattle.table_text.specs.Print.{hex8}
use Rattle.table_text.proofs.Buffers.{put-part}
use mathlib.Core.Path.{refl}
use Rattle.table_text.proofs.inner.put_word.Goals as goal

pub returns : goal.returns
returns c = record { value = refl; out_after = put-part c.args.out.now (hex8 c.args.w) c.put_hex.new.out c.args.at 8 refl c.put_hex.ensures }
