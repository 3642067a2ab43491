-- Demand 3: no qualifying apex goes missing unexplained. The terms of document 01 first, then what holds of grids, of stitching and of
-- expansion, and at the end the demand in one statement. It speaks of what the public functions hand back, and asks nothing but that what was
-- handed in was accepted: that the answer is a count. Each part names its proofs. Worked cases, which show that there is something to
-- explain, stand in specs/Cases.antt. docs/ACCOUNT.md leads from each sentence of the demand to its place here.
use Rattle.std.specs.Prelude.{Ok, Some}
use Rattle.std.specs.Prelude.{◌≡◌, Bool, true, false, List, ◌⊎◌, ◌↔◌, ◌≢◌, ℕ, ◌+◌, ◌-◌, ◌*◌, ◌/◌, ◌%◌, ◌≤◌, ◌<◌, length, get_or, take, Float}
use Rattle.std.specs.Float.Ieee.{lt, le}
use Rattle.numeric.specs.Arith.{at}
use Rattle.row_record.specs.Record.{size, size_in_bytes, peak_at}
use Rattle.row_record.specs.declared.ImPeak1D.{ImPeak1D}
use Rattle.row_search.specs.Account.{◌∈◌, dist}
use Rattle.row_search.specs.Qualifying.{qualifying}
use Rattle.grid_rows.specs.Grid.{Grid, row_of, searched_of, words_to}
use Rattle.grid.specs.Answer.{Answered as GridAnswered}
use Rattle.grid_laws.specs.GridRecords.{Before}
use Rattle.grid_word_bytes.specs.Bytes.{words_of, bytes_of}
use Rattle.c_grid_stitch.specs.Entry.{Answered as GridCalled}
use Rattle.stitch_matching.specs.declared.StitchParams.{StitchParams}
use Rattle.stitch_peaks.specs.Extremes.{lowest_of, highest_of}
use Rattle.stitch_merging.specs.MergingLaws.{Bound, low, high}
use Rattle.stitch_grouping.specs.Grouping.{peaks_at}
use Rattle.stitch_passes.specs.Account.{owner_at, members_of}
use Rattle.stitch.specs.StitchNumber.{peaks_in}
use Rattle.stitch.specs.Answer.{Lent as StitchLists, Answered as StitchAnswered}
use Rattle.c_grid_stitch.specs.Stitching.{Answered as StitchCalled}
use Rattle.rt_params.specs.declared.RtExpandParams.{RtExpandParams}
use Rattle.rt_record.specs.RtRecord.{rt_size, rt_peak_at}
use Rattle.rt_record.specs.declared.RtPeak1D.{RtPeak1D}
use Rattle.rt_choice.specs.Times.{near_in_time}
use Rattle.rt_apex.specs.InTime.{apex_time}
use Rattle.rt_search.specs.Retention.{rt_qualifying, chosen_apexes, has_shares}
use Rattle.expand_trace.specs.Trace.{any_above}
use Rattle.expand_peak.specs.Expanded.{Run, window_in, floor_of}
use Rattle.expand_many.specs.Many.{Many, sum_to, weights_at}
use Rattle.expand.specs.ExpandCall.{Lent as ExpandLists, OneAnswered, ManyAnswered}
use Rattle.expand.specs.ExpandCall.{peaks_in as to_expand}
use Rattle.c_expand.specs.Expansion.{OneTold, ManyTold}
use Rattle.expand_laws.specs.ExpandAccount.{raw_over, smooth_over, times_over}

-- ==== grids (proofs/Grids.antt)

-- Qualifying apexes of row r, by their indices in the row: candidates of a row whose raw maximum reaches the floor, with a prominence of at least
-- the floor and a half-height width, rounded, of at least the least width (row_search/specs/Qualifying.antt).
abbrev pub qualifying_in : Grid → ℕ → List ℕ
qualifying_in g r = qualifying g.params (searched_of g r) (row_of g r)

-- the height of an apex is read in the smoothed row, which is the raw one where the grid is not smoothed
abbrev pub height_in : Grid → ℕ → ℕ → Float
height_in g r i = at (searched_of g r) i

-- Listed: one of the `count` records at the front of the list bears the apex's row and its index in the row.
pub record Listed (out : List ℕ) (count row index : ℕ) : Type 0 where
  pub place : ℕ
  pub among : place < count
  pub bears-row : (peak_at out place).tof_row ≡ row
  pub bears-index : (peak_at out place).scan ≡ index

-- A step of a chain: to a qualifying apex of the same row, and shorter than the least distance. Its length is the difference of the indices.
pub record Step (g : Grid) (r from to : ℕ) : Type 0 where
  pub qualifies : to ∈ qualifying_in g r
  pub short : dist from to < g.params.min_distance_scans

-- the later steps, none or more, as far as a listed apex: each leads to a later and higher one
pub data Onward (g : Grid) (out : List ℕ) (count r : ℕ) : ℕ → Type 0 where
  arrived : {c : ℕ} → Listed out count r c → Onward g out count r c
  later : {c : ℕ} (to : ℕ) → Step g r c to → c < to → lt (height_in g r c) (height_in g r to) ≡ true → Onward g out count r to → Onward g out count r c

-- Chain: a first step, to another apex that is no lower, and the later ones.
pub record Chain (g : Grid) (out : List ℕ) (count r i : ℕ) : Type 0 where
  pub to : ℕ
  pub other : to ≢ i
  pub first : Step g r i to
  pub no_lower : le (height_in g r i) (height_in g r to) ≡ true
  pub onward : Onward g out count r to

-- the account of a grid, over the records at the front of its list
pub record GridAccounted (g : Grid) (rows count : ℕ) (out : List ℕ) : Type 0 where
  -- all records are there, so that nothing is read past an end
  pub records : count * size ≤ length out
  -- every record's row and index is a qualifying apex
  pub rows_are : (k : ℕ) → k < count → (peak_at out k).tof_row < rows
  pub only-qualifying : (k : ℕ) → k < count → (peak_at out k).scan ∈ qualifying_in g (peak_at out k).tof_row
  -- they ascend strictly, by row and index (`Before`, grid_laws/specs/GridRecords.antt), so that none stands twice
  pub ascending : (j k : ℕ) → j < k → k < count → Before (peak_at out j) (peak_at out k)
  -- every qualifying apex is listed, or a chain leads from it to a listed one
  pub explained : (r i : ℕ) → r < rows → i ∈ qualifying_in g r → Listed out count r i ⊎ Chain g out count r i

-- `grid::detect_im_peaks_from_tof_scan_grid`, where it answers a count: the list is the definition's, and accounts for the grid
abbrev pub GridsAccounted : Type 0
GridsAccounted =
    (g : Grid) (rows : ℕ) (out₀ out : List ℕ) (scratch₀ scratch : List Float) (count : ℕ)
    → GridAnswered g rows out₀ out scratch₀ scratch (Ok count)
    → (take (count * size) out ≡ words_to g rows) × GridAccounted g rows count out

-- The C function `rubzolena_detect_im_peaks`, over the bytes of its list. It answers 64 times the count, or a number, all of which are below 64.
abbrev pub GridCallsAccounted : Type 0
GridCallsAccounted =
    (whole : Bool) (flag : ℕ) (g : Grid) (rows : ℕ) (out₀ out : List ℕ) (r : ℕ) → GridCalled whole flag g rows out₀ out r → r % 64 ≡ 0
    → (take (r / 64 * size_in_bytes) out ≡ bytes_of (words_to g rows)) × GridAccounted g rows (r / 64) (words_of out)

-- ==== stitching (proofs/Demand3.antt)

-- Owner: the stitched peak that the owner column names for an input peak. Both are told by their places in their lists.
abbrev pub owner : StitchLists → ℕ → ℕ
owner is p = owner_at is.owners p

-- Members of a stitched peak: the input peaks that it owns.
abbrev pub members : List ℕ → StitchLists → ℕ → List ℕ
members list is k = members_of is.owners (length (peaks_in list)) k

abbrev pub member_peaks : List ℕ → StitchLists → ℕ → List ImPeak1D
member_peaks list is k = peaks_at (peaks_in list) (members list is k)

-- the account of a list that was stitched
pub record StitchAccounted (list : List ℕ) (is : StitchLists) (count : ℕ) : Type 0 where
  -- all records and owners are there
  pub records : count * size ≤ length is.out
  pub column : length (peaks_in list) ≤ length is.owners
  -- each input peak has exactly one owner: it is a member of that stitched peak, and of no other
  pub owned : (p : ℕ) → p < length (peaks_in list) → (owner is p < count) × (p ∈ members list is (owner is p))
  pub no_other : (p k : ℕ) → p ∈ members list is k → k ≡ owner is p
  -- each stitched peak has a member at least
  pub some : (k : ℕ) → k < count → 0 < length (members list is k)
  -- Its bounds, in TOF, frames, frame numbers, scans and absolute scans (`Bound`, stitch_merging/specs/MergingLaws.antt), are its members' extremes: the
  -- lowest of the low bounds, and the highest of the high ones.
  pub lows : (k : ℕ) → k < count → (b : Bound) → low b (peak_at is.out k) ≡ lowest_of (low b) (member_peaks list is k)
  pub highs : (k : ℕ) → k < count → (b : Bound) → high b (peak_at is.out k) ≡ highest_of (high b) (member_peaks list is k)
  -- its identity is the least of its members', and no two stitched peaks have one
  pub identity : (k : ℕ) → k < count → (peak_at is.out k).id ≡ lowest_of (λ q. q.id) (member_peaks list is k)
  pub identities : (j k : ℕ) → j < count → k < count → (peak_at is.out j).id ≡ (peak_at is.out k).id → j ≡ k

-- `stitch::stitch_im_peaks_flat_unordered_impl`, for which `told` is true, where it answers a count
abbrev pub StitchingAccounted : Type 0
StitchingAccounted =
    (told : Bool) (list : List ℕ) (params : StitchParams) (was is : StitchLists) (count : ℕ)
    → StitchAnswered told list params was is (Ok count) → StitchAccounted list is count

-- the C function `rubzolena_stitch_im_peaks`
abbrev pub StitchCallsAccounted : Type 0
StitchCallsAccounted =
    (told : Bool) (list : List ℕ) (params : StitchParams) (was is : StitchLists) (r : ℕ)
    → StitchCalled told list params was is r → r % 64 ≡ 0 → StitchAccounted list is (r / 64)

-- ==== expansion (proofs/Expansion.antt): a mobility peak p over a run, with parameters e and weights ws

-- Padded frame window: the one that the Rust forms for the mobility peak and that expansion's first call gives, frames lo to hi, ends included,
-- by their places in the run (expand_padded_window/specs/FrameWindow.antt).
abbrev pub Window : Run → RtExpandParams → ImPeak1D → ℕ → ℕ → Type 0
Window run e p lo hi = Some (record { lo = lo; hi = hi }) ≡ window_in run e p

-- a record whose apex frame and both frame bounds lie in the frames lo to hi
pub record Within (lo hi : ℕ) (r : RtPeak1D) : Type 0 where
  pub apex : (lo ≤ r.apex.rt_idx) × (r.apex.rt_idx ≤ hi)
  pub first : (lo ≤ r.rt_lo) × (r.rt_lo ≤ hi)
  pub last : (lo ≤ r.rt_hi) × (r.rt_hi ≤ hi)

-- The trace over the window, raw (`raw_over`) and smoothed (`smooth_over`), and its times (`times_over`) are those of
-- expand_laws/specs/ExpandAccount.antt.

-- Qualifying retention apexes, by their places in the trace: the same as a row's, with the effective threshold as floor and the unrounded width
-- in seconds (rt_search/specs/Retention.antt).
abbrev pub qualifying_over : Run → RtExpandParams → List Float → ImPeak1D → ℕ → ℕ → List ℕ
qualifying_over run e ws p lo hi =
    rt_qualifying (floor_of e (smooth_over run e ws p lo hi)) e.min_width_sec (smooth_over run e ws p lo hi) (raw_over run e p lo hi) (times_over run lo hi)

-- Chosen: by falling height, equal ones by index, a qualifying one is chosen if no chosen one is closer than the least separation.
abbrev pub chosen_over : Run → RtExpandParams → List Float → ImPeak1D → ℕ → ℕ → List ℕ
chosen_over run e ws p lo hi =
    chosen_apexes (floor_of e (smooth_over run e ws p lo hi)) e.min_sep_sec e.min_width_sec (smooth_over run e ws p lo hi) (raw_over run e p lo hi) (times_over run lo hi)

-- whether its area meets both shares, 2% of the trace and 5% of the best chosen
abbrev pub shares_over : Run → RtExpandParams → List Float → ImPeak1D → ℕ → ℕ → ℕ → Bool
shares_over run e ws p lo hi i = has_shares (smooth_over run e ws p lo hi) (raw_over run e p lo hi) (chosen_over run e ws p lo hi) i

-- Ordinary: the window is not too short by the Rust's own test (fewer frames than `fallback_if_frames_lt`), and a chosen apex meets both shares.
pub record OrdinaryPath (run : Run) (e : RtExpandParams) (ws : List Float) (p : ImPeak1D) (lo hi : ℕ) : Type 0 where
  pub window : Window run e p lo hi
  pub long : e.fallback_if_frames_lt ≤ hi + 1 - lo
  pub apex : ℕ
  pub chosen : apex ∈ chosen_over run e ws p lo hi
  pub shares : shares_over run e ws p lo hi apex ≡ true

-- another one, chosen and no lower, lies closer in time than the least separation, by the f32 difference of apex times
pub record TooClose (run : Run) (e : RtExpandParams) (ws : List Float) (p : ImPeak1D) (lo hi i : ℕ) : Type 0 where
  pub to : ℕ
  pub other : to ≢ i
  pub chosen : to ∈ chosen_over run e ws p lo hi
  pub no_lower : le (at (smooth_over run e ws p lo hi) i) (at (smooth_over run e ws p lo hi) to) ≡ true
  pub close : near_in_time (apex_time (smooth_over run e ws p lo hi) (times_over run lo hi)) e.min_sep_sec i to ≡ true

-- Listed, of a retention apex: one of the mobility peak's records, `count` of the list from place `from` on, bears its frame as the apex frame.
pub record ListedFrame (out : List ℕ) (from count frame : ℕ) : Type 0 where
  pub place : ℕ
  pub among : place < count
  pub bears-frame : (rt_peak_at out (from + place)).apex.rt_idx ≡ frame

-- a record that bears a qualifying retention apex
pub record BearsApex (run : Run) (e : RtExpandParams) (ws : List Float) (p : ImPeak1D) (lo hi : ℕ) (r : RtPeak1D) : Type 0 where
  pub apex : ℕ
  pub qualifies : apex ∈ qualifying_over run e ws p lo hi
  pub bears-frame : r.apex.rt_idx ≡ lo + apex

-- the account of a mobility peak on the ordinary path
pub record RetentionAccounted (run : Run) (e : RtExpandParams) (ws : List Float) (p : ImPeak1D) (lo hi from count : ℕ) (out : List ℕ) : Type 0 where
  -- only qualifying retention apexes
  pub only-qualifying : (k : ℕ) → k < count → BearsApex run e ws p lo hi (rt_peak_at out (from + k))
  -- none twice
  pub distinct : (j k : ℕ) → j < k → k < count → (rt_peak_at out (from + j)).apex.rt_idx ≢ (rt_peak_at out (from + k)).apex.rt_idx
  -- one is missing exactly when another one, chosen and no lower, lies too close, or when its own area fails one of the two shares
  pub missing : (i : ℕ) → i ∈ qualifying_over run e ws p lo hi
      → (ListedFrame out from count (lo + i) → ⊥) ↔ (TooClose run e ws p lo hi i ⊎ (shares_over run e ws p lo hi i ≡ false))

-- the account of a mobility peak
pub record ExpansionAccounted (run : Run) (e : RtExpandParams) (ws : List Float) (p : ImPeak1D) (from count : ℕ) (out : List ℕ) : Type 0 where
  -- all records are there
  pub records : (from + count) * rt_size ≤ length out
  -- all frame bounds lie in the padded frame window
  pub inside : (lo hi : ℕ) → Window run e p lo hi → (k : ℕ) → k < count → Within lo hi (rt_peak_at out (from + k))
  pub ordinary : (lo hi : ℕ) → OrdinaryPath run e ws p lo hi → RetentionAccounted run e ws p lo hi from count out
  -- off it the fallback has one record at most
  pub fallback : (lo hi : ℕ) → Window run e p lo hi → (OrdinaryPath run e ws p lo hi → ⊥) → count ≤ 1
  -- a trace without a reading above 0 is not searched: it has no record, and no apex of it qualifies
  pub none-above : (lo hi : ℕ) → Window run e p lo hi → any_above (raw_over run e p lo hi) ≡ false
      → (count ≡ 0) × ((i : ℕ) → i ∈ qualifying_over run e ws p lo hi → ⊥)

-- `expand::expand_im_peak_along_rt`, where it answers a count
abbrev pub OneExpanded : Type 0
OneExpanded =
    (run : Run) (e : RtExpandParams) (peak : List ℕ) (ws : List Float) (first : ℕ) (was is : ExpandLists) (count : ℕ)
    → OneAnswered run e peak ws first was is (Ok count) → ExpansionAccounted run e ws (peak_at peak 0) 0 count is.out

-- the C function `rubzolena_expand_im_peak`
abbrev pub OneCallExpanded : Type 0
OneCallExpanded =
    (run : Run) (e : RtExpandParams) (peak : List ℕ) (ws : List Float) (first : ℕ) (was is : ExpandLists) (r : ℕ)
    → OneTold run e peak ws first was is r → r % 64 ≡ 0 → ExpansionAccounted run e ws (peak_at peak 0) 0 (r / 64) is.out

-- Of many mobility peaks, each is accounted for: the count column has a count for each, its records stand behind those of the peaks before it
-- (`sum_to` adds up the counts before a place), and there are no others.
pub record AllExpanded (m : Many) (counts out : List ℕ) (total : ℕ) : Type 0 where
  pub each : (q : ℕ) → q < to_expand m
      → ExpansionAccounted m.run m.params (weights_at m q) (peak_at m.list q) (sum_to counts q) (get_or counts q 0) out
  pub all : sum_to counts (to_expand m) ≡ total

-- `expand::expand_many_im_peaks_along_rt`, where it answers a count
abbrev pub ManyExpanded : Type 0
ManyExpanded =
    (m : Many) (was is : ExpandLists) (counts₀ counts : List ℕ) (total : ℕ) → ManyAnswered m was is counts₀ counts (Ok total)
    → AllExpanded m counts is.out total

-- the C function `rubzolena_expand_many_im_peaks`
abbrev pub ManyCallsExpanded : Type 0
ManyCallsExpanded =
    (m : Many) (was is : ExpandLists) (counts₀ counts : List ℕ) (r : ℕ) → ManyTold m was is counts₀ counts r → r % 64 ≡ 0
    → AllExpanded m counts is.out (r / 64)

-- ==== the demand: `demand3` in proofs/Demand3.antt

pub record Demand3 : Type 0 where
  pub grids : GridsAccounted
  pub grid-calls : GridCallsAccounted
  pub stitching : StitchingAccounted
  pub stitch-calls : StitchCallsAccounted
  pub expansion : OneExpanded
  pub expansion-calls : OneCallExpanded
  pub expansions : ManyExpanded
  pub expansions-calls : ManyCallsExpanded
