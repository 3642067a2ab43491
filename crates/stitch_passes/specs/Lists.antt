-- The lists that are lent to stitching.
use Rattle.std.specs.Prelude.{◌≡◌, length}
use Rattle.stitch_passes.specs.declared.Lent.{Lent}

-- the struct holds the same lists as at the call
abbrev pub SameLists : Lent → Lent → Type 0
SameLists was is =
    (is.out.ghost_name ≡ was.out.ghost_name) × (is.owners.ghost_name ≡ was.owners.ghost_name) × (is.order.ghost_name ≡ was.order.ghost_name)
    × (is.groups.ghost_name ≡ was.groups.ghost_name) × (is.keys.ghost_name ≡ was.keys.ghost_name) × (is.merged.ghost_name ≡ was.merged.ghost_name)

-- and each is as long as at the call
abbrev pub SameLengths : Lent → Lent → Type 0
SameLengths was is =
    (length is.out.now ≡ length was.out.now) × (length is.owners.now ≡ length was.owners.now) × (length is.order.now ≡ length was.order.now)
    × (length is.groups.now ≡ length was.groups.now) × (length is.keys.now ≡ length was.keys.now) × (length is.merged.now ≡ length was.merged.now)
