-- The peaks of some records.
use Rattle.std.specs.Prelude.{List}
use Rattle.row_record.specs.declared.ImPeak1D.{ImPeak1D}
use Rattle.stitch_peaks.specs.PeakList.{peaks_of}
use Rattle.stitch_peaks.specs.declared.Records.{Records}

abbrev pub peaks_in : Records → List ImPeak1D
peaks_in r = peaks_of r.words.now r.count
