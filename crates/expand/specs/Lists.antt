-- The lent lists of the struct that holds them.
use Rattle.std.specs.Prelude.{◌≡◌, length}
use Rattle.expand.specs.declared.lent.Lent.{Lent as LentLists}
use Rattle.expand.specs.ExpandCall.{Lent, lent_of}

abbrev pub lent_in : LentLists → Lent
lent_in l = lent_of l.out.now l.raw.now l.smooth.now l.order.now

-- the struct holds the same lists as before
abbrev pub SameLists : LentLists → LentLists → Type 0
SameLists was is =
    (is.out.ghost_name ≡ was.out.ghost_name) × (is.raw.ghost_name ≡ was.raw.ghost_name) × (is.smooth.ghost_name ≡ was.smooth.ghost_name) × (is.order.ghost_name ≡ was.order.ghost_name)
    × (length is.out.now ≡ length was.out.now)

-- and each is as long as before
abbrev pub SameLengths : LentLists → LentLists → Type 0
SameLengths was is =
    (length is.out.now ≡ length was.out.now) × (length is.raw.now ≡ length was.raw.now) × (length is.smooth.now ≡ length was.smooth.now) × (length is.order.now ≡ length was.order.now)
