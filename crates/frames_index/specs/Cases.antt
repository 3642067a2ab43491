-- Worked cases, each by computation; they need not be read to know what is promised.
use Rattle.std.specs.Prelude.{◌≡◌, refl, true, false, [], ◌∷◌}
use Rattle.row_params.specs.Params.{all_up_to, rising, rising_from}
use Rattle.frames_index.specs.FrameIndex.{climbs_from, climbs_to, frames_rise_from, frames_rise, sound_lists}

-- Two frames with bins 3, 7 and 7, and an empty one between them; then, one by one: offsets that do not start at 0, that fall, that do
-- not end at the count of points, a bin twice in a frame, and a start that passes the bins.
pub sound-or-not :
    sound_lists (0 ∷ 2 ∷ 2 ∷ 3 ∷ []) (3 ∷ 7 ∷ 7 ∷ []) (0 ∷ 1 ∷ 4 ∷ 6 ∷ []) 6
    ∷ sound_lists (0 ∷ 2 ∷ 2 ∷ 3 ∷ []) (3 ∷ 7 ∷ 7 ∷ []) (1 ∷ 1 ∷ 4 ∷ 6 ∷ []) 6
    ∷ sound_lists (0 ∷ 2 ∷ 2 ∷ 3 ∷ []) (3 ∷ 7 ∷ 7 ∷ []) (0 ∷ 5 ∷ 4 ∷ 6 ∷ []) 6
    ∷ sound_lists (0 ∷ 2 ∷ 2 ∷ 3 ∷ []) (3 ∷ 7 ∷ 7 ∷ []) (0 ∷ 1 ∷ 4 ∷ 6 ∷ []) 7
    ∷ sound_lists (0 ∷ 1 ∷ 3 ∷ []) (3 ∷ 7 ∷ 7 ∷ []) (0 ∷ 1 ∷ 4 ∷ 6 ∷ []) 6
    ∷ sound_lists (0 ∷ 4 ∷ []) (3 ∷ 7 ∷ 7 ∷ []) (0 ∷ 1 ∷ 4 ∷ 6 ∷ []) 6
    ∷ []
    ≡ true ∷ false ∷ false ∷ false ∷ false ∷ false ∷ []
unfolding sound_lists climbs_to climbs_from frames_rise frames_rise_from all_up_to rising rising_from
sound-or-not = refl
