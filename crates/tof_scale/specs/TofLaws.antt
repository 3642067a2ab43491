-- What the definitions of the scale come to.
use Rattle.std.specs.Prelude.{◌≡◌, Bool, true, cond, ◌&&◌, List, ℕ, ◌+◌, ◌*◌, ◌%◌, ◌≤◌, ◌<◌, min, max, leb, ltb, length, get_or, Ok, Some}
use Rattle.refusal.specs.Refusal.{Lowest}
use Rattle.refusal.specs.Numbered.{says}
use Rattle.limits.specs.Limits.{max_tof, max_rows, max_tof_bound}
use Rattle.row_params.specs.Params.{all_up_to, sound_tof}
use Rattle.tof_scale.specs.declared.TofScale.{TofScale}
use Rattle.tof_scale.specs.declared.inner.Span.{Span}
use Rattle.tof_scale.specs.TofAnswers.{build_checks, build_number, build_answer}
use Rattle.tof_scale.specs.Tof.{Sound, edge, in_scale, bin_of, last_bin, window_bins, row_place, scale_checks, scale_number, lowest_tof, highest_tof}

-- ---- numbers

-- the number of a call is the lowest that applies: `number-lowest` in proofs/TofLaws.antt
abbrev pub ScaleLowest : Type 0
ScaleLowest =
    (s : TofScale) (value tofs : Bool) → 0 < scale_number s value tofs → Lowest (scale_checks s value tofs) (scale_number s value tofs)

-- and so is that of building: `build-lowest`
abbrev pub BuildLowest : Type 0
BuildLowest = (ts : List ℕ) (step : ℕ) → 0 < build_number ts step → Lowest (build_checks ts step) (build_number ts step)

-- where no number applies, the scale is sound and the call's own values are in range: `no_number`
abbrev pub SoundAtZero : Type 0
SoundAtZero = (s : TofScale) (value tofs : Bool) → scale_number s value tofs ≡ 0 → Sound s × (value ≡ true) × (tofs ≡ true)

-- and none applies to a sound scale: `sound-number`
abbrev pub ZeroForSound : Type 0
ZeroForSound = (s : TofScale) → Sound s → scale_number s true true ≡ 0

-- ---- the bins of a sound scale

-- it has from 1 to 4,194,304 bins: `bins-held`
abbrev pub BinsHeld : Type 0
BinsHeld = (s : TofScale) → Sound s → (1 ≤ s.num_bins) × (s.num_bins ≤ max_rows)

-- a bin's upper edge is at most what a peak's bounds may be: `edges-held`
abbrev pub EdgesHeld : Type 0
EdgesHeld = (s : TofScale) → Sound s → (i : ℕ) → i < s.num_bins → edge s (i + 1) ≤ max_tof_bound

-- the last bin begins at the highest TOF: `last-edge`
abbrev pub LastEdge : Type 0
LastEdge = (s : TofScale) → Sound s → edge s (last_bin s) ≡ s.tof_max

-- a TOF in the scale has a bin: `bin-below`
abbrev pub BinBelow : Type 0
BinBelow = (s : TofScale) → Sound s → (t : ℕ) → in_scale s t ≡ true → bin_of s t < s.num_bins

-- and stands between its edges: `bin-edges`
abbrev pub BinEdges : Type 0
BinEdges = (s : TofScale) → Sound s → (t : ℕ) → in_scale s t ≡ true → (edge s (bin_of s t) ≤ t) × (t < edge s (bin_of s t + 1))

-- number 5 lets a row's TOF values pass: `row-held`
abbrev pub RowHeld : Type 0
RowHeld = (s : TofScale) → Sound s → (i : ℕ) → i < s.num_bins → sound_tof (row_place s i) ≡ true

-- Twice the whole centre of a row is the sum of its edges, which is twice the exact centre, or one more where that sum is odd: the exact
-- centre, a half rounded up, as the Rust's `round` gives it: `center-rounded`
abbrev pub CenterRounded : Type 0
CenterRounded = (s : TofScale) (i : ℕ) → 2 * (row_place s i).tof_center ≡ edge s i + edge s (i + 1) + s.tof_step % 2

-- ---- the window as the Rust has it

-- `index_of_tof`, with what stands for none
unfoldable pub or_else : TofScale → ℕ → ℕ → ℕ
or_else s t d = cond (leb s.tof_min t && leb t s.tof_max && ltb (bin_of s t) s.num_bins) (bin_of s t) d

abbrev pub rust_between : TofScale → ℕ → ℕ → Span
rust_between s lo hi =
    cond (leb hi s.tof_min)
    (record { lo = 0; hi = 0 })
    (cond (leb s.tof_max lo)
    (record { lo = last_bin s; hi = last_bin s })
    (let i = or_else s (max lo s.tof_min) 0 in
    let j = or_else s (min hi s.tof_max) (last_bin s) in
    record { lo = min i j; hi = max j i }))

unfoldable pub rust_window : TofScale → ℕ → ℕ → Span
rust_window s a b = cond (leb a b) (rust_between s a b) (rust_between s b a)

-- none of what stands for none is ever reached, and the two bins come in order: `window-is-rusts`
abbrev pub WindowIsRusts : Type 0
WindowIsRusts = (s : TofScale) → Sound s → (a b : ℕ) → window_bins s a b ≡ rust_window s a b

-- ---- building

-- where there is no scale, any two values are one: `no-scale-one`
abbrev pub OneValue : Type 0
OneValue =
    (ts : List ℕ) → highest_tof ts ≤ lowest_tof ts → (i j : ℕ) → i < length ts → j < length ts → get_or ts i 0 ≡ get_or ts j 0

-- and where any two are one, there is none: `one-no-scale`
abbrev pub NoScale : Type 0
NoScale =
    (ts : List ℕ) → all_up_to max_tof ts ≡ true → ((i j : ℕ) → i < length ts → j < length ts → get_or ts i 0 ≡ get_or ts j 0)
    → highest_tof ts ≤ lowest_tof ts

-- a scale that is built is sound, so that no entry refuses it for its numbers: `built-sound`
abbrev pub BuiltSound : Type 0
BuiltSound = (tofs : List ℕ) (step : ℕ) (s : TofScale) → build_answer tofs step ≡ says (Ok (Some s)) → Sound s
