-- A list of peaks, and the words that it is lent as.
use Rattle.std.specs.Prelude.{List, [], ◌∷◌, ◌++◌, ℕ, zero, suc, get_or}
use Rattle.row_record.specs.Record.{peak_from, peak_at, words_of}
use Rattle.row_record.specs.declared.ImPeak1D.{ImPeak1D}

-- the peak that stands for none: all of its words are 0
unfoldable pub no_peak : ImPeak1D
no_peak = peak_from [] 0

-- the peak at a place of a list, counted from 0
abbrev pub nth : List ImPeak1D → ℕ → ImPeak1D
nth ps k = get_or ps k no_peak

-- the first n peaks of a list of words
unfoldable pub peaks_of : List ℕ → ℕ → List ImPeak1D
peaks_of words zero = []
peaks_of words (suc n) = peaks_of words n ++ (peak_at words n ∷ [])

-- the words of a list of peaks, record after record
unfoldable pub list_words : List ImPeak1D → List ℕ
list_words [] = []
list_words (p ∷ ps) = words_of p ++ list_words ps
