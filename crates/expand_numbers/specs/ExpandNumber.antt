-- The parts of what a call of expansion is asked besides its index (`index_checks` of frames_index has the numbers).
use Rattle.std.specs.Prelude.{Bool, true, ◌&&◌, List, [], ◌∷◌, ℕ, ◌+◌, ◌-◌, ◌*◌, ◌/◌, leb, eqb, take, drop, Float}
use Rattle.limits.specs.Limits.{max_seconds, identities}
use Rattle.numeric.specs.Numeric.{all_in_range}
use Rattle.row_smoothing.specs.Smoothing.{sound_weights}
use Rattle.row_params.specs.Params.{rising}
use Rattle.tof_scale.specs.Tof.{sound_step}
use Rattle.rt_time.specs.Time.{never_falls}
use Rattle.rt_params.specs.Expand.{sound_expand}
use Rattle.rt_params.specs.declared.RtExpandParams.{RtExpandParams}
use Rattle.rt_record.specs.RtRecord.{rt_size}

-- one frame number and one time for each frame of an index with so many starts, one of which stands behind the last frame
abbrev pub paired_axes : ℕ → ℕ → ℕ → Bool
paired_axes starts ids times = eqb starts (ids + 1) && eqb times ids

-- lengths that add up to n
unfoldable pub sum_of : List ℕ → ℕ
sum_of [] = 0
sum_of (k ∷ ks) = k + sum_of ks

abbrev pub sums_to : List ℕ → ℕ → Bool
sums_to lengths n = eqb (sum_of lengths) n

-- of lists of weights that are joined, with these lengths, each is sound
unfoldable pub all_weights : List ℕ → List Float → Bool
all_weights [] ws = true
all_weights (k ∷ ks) ws = sound_weights (take k ws) && all_weights ks (drop k ws)

-- parameters, the scale's step and times in range, and identities for n times m peaks from the first on, none past 2^32 - 1
unfoldable pub sound_values : RtExpandParams → ℕ → List Float → ℕ → ℕ → ℕ → Bool
sound_values e step times first n m = sound_expand e && sound_step step && all_in_range max_seconds times && leb (n * m) (identities - first)

-- frame numbers rise, and times do not fall
unfoldable pub rising_axes : List ℕ → List Float → Bool
rising_axes ids times = rising ids && never_falls times

-- room for n times m records
unfoldable pub enough_room : ℕ → ℕ → ℕ → Bool
enough_room n m room = leb (n * m) (room / rt_size)

-- scratch for n frames
abbrev pub enough_scratch : ℕ → ℕ → ℕ → ℕ → Bool
enough_scratch n raw smooth order = leb n raw && leb n smooth && leb n order
