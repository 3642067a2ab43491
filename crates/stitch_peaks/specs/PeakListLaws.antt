-- What is read where peaks have been written, and how long both are.
use Rattle.std.specs.Prelude.{◌≡◌, ℕ, ◌*◌, ◌<◌, length}
use mathlib.Core.List.{List, ◌++◌, Memᴰ}
use Rattle.row_record.specs.Record.{size, peak_at}
use Rattle.row_record.specs.RoundTrip.{FloatsFit}
use Rattle.row_record.specs.declared.ImPeak1D.{ImPeak1D}
use Rattle.stitch_peaks.specs.PeakList.{nth, peaks_of, list_words}

-- every float of every peak is one of binary32, as every f32 is
abbrev pub AllFit : List ImPeak1D → Type 0
AllFit ps = (p : ImPeak1D) → Memᴰ p ps → FloatsFit p

-- so it is with peaks that are read from words: `peaks-fit` in proofs/PeakListLaws.antt
abbrev pub PeaksFit : Type 0
PeaksFit = (words : List ℕ) (n : ℕ) → AllFit (peaks_of words n)

-- as many peaks are read as were asked for: `peaks-length`
abbrev pub PeaksLength : Type 0
PeaksLength = (words : List ℕ) (n : ℕ) → length (peaks_of words n) ≡ n

-- the peak at a place is the one whose words stand there: `nth-peaks`
abbrev pub NthPeaks : Type 0
NthPeaks = (words : List ℕ) (n k : ℕ) → k < n → nth (peaks_of words n) k ≡ peak_at words k

-- a record's words for each peak: `words-length`
abbrev pub WordsLength : Type 0
WordsLength = (ps : List ImPeak1D) → length (list_words ps) ≡ length ps * size

-- peaks that are written are read as they were, whatever follows them: `read_back`
abbrev pub ReadBack : Type 0
ReadBack = (ps : List ImPeak1D) (rest : List ℕ) → AllFit ps → peaks_of (list_words ps ++ rest) (length ps) ≡ ps
