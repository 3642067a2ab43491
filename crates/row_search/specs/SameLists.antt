-- A scratch that holds the same lists as before. That `samples` is the same is a clause beside it: where a caller lends the scratch as a
-- part of another one, in expand_peak and above, that clause stands without this one.
use Rattle.std.specs.Prelude.{◌≡◌}
use Rattle.row_search.specs.declared.scratch.Scratch.{Scratch}

abbrev pub SameLists : Scratch → Scratch → Type 0
SameLists was is =
    (is.turns.ghost_name ≡ was.turns.ghost_name) × (is.bases.ghost_name ≡ was.bases.ghost_name) × (is.found.ghost_name ≡ was.found.ghost_name)
