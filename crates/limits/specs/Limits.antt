-- The limits of document 01, as in the code.
use Rattle.std.specs.Prelude.{ℕ, ◌^◌}

-- ---- bit patterns of the highest floats: a float from 0 to a limit has a pattern up to that one's, and one with a set sign a
-- higher one

-- readings: 2^32
abbrev pub max_reading : ℕ
max_reading = 0x4f80_0000

-- smoothed readings, apexes, prominences and thresholds: 2^33
abbrev pub max_height : ℕ
max_height = 0x5000_0000

-- areas of peaks: 2^50
abbrev pub max_area : ℕ
max_area = 0x5880_0000

-- seconds: 2^20
abbrev pub max_seconds : ℕ
max_seconds = 0x4980_0000

-- mobilities and scan sigmas: 2^20
abbrev pub max_mobility : ℕ
max_mobility = 0x4980_0000

-- weights: 1, which the middle one is
abbrev pub max_weight : ℕ
max_weight = 0x3f80_0000

-- places in a row, between samples: 65,535
abbrev pub max_place : ℕ
max_place = 0x477f_ff00

-- places in a scale, between bins: 4,194,304
abbrev pub max_bin_place : ℕ
max_bin_place = 0x4a80_0000

-- subscans, without their sign: 0.5
abbrev pub max_offset : ℕ
max_offset = 0x3f00_0000

-- whatever is no NaN and has a clear sign
abbrev pub any_number : ℕ
any_number = 0x7f80_0000

-- ---- whole numbers

-- TOF values
abbrev pub max_tof : ℕ
max_tof = 4194303

-- TOF bounds and centres of peaks: the highest TOF and the highest step
abbrev pub max_tof_bound : ℕ
max_tof_bound = 4259839

-- steps of a scale
abbrev pub max_step : ℕ
max_step = 65536

-- absolute scans
abbrev pub max_scan : ℕ
max_scan = 65535

-- counts among parameters
abbrev pub max_count : ℕ
max_count = 65535

-- widths of peaks, in scans
abbrev pub max_width : ℕ
max_width = 65536

-- places of samples in a row
abbrev pub last_sample : ℕ
last_sample = 16383

-- places of frames
abbrev pub last_frame : ℕ
last_frame = 16383

-- places of rows
abbrev pub last_row : ℕ
last_row = 4194303

-- ---- sizes

-- samples in a row
abbrev pub max_samples : ℕ
max_samples = 16384

-- frames
abbrev pub max_frames : ℕ
max_frames = 16384

-- rows
abbrev pub max_rows : ℕ
max_rows = 4194304

-- points
abbrev pub max_points : ℕ
max_points = 16777216

-- peaks in a list to stitch or to expand
abbrev pub max_list : ℕ
max_list = 65536

-- weights
abbrev pub max_weights : ℕ
max_weights = 257

-- identities, from 0 to 2^32 - 1
abbrev pub identities : ℕ
identities = 2 ^ 32

-- whole numbers up to this one are floats
abbrev pub exact_index : ℕ
exact_index = 16777216
