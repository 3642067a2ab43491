-- Lists of peaks, their words, and the extremes of a field.
pub mod Extremes
pub mod PeakList
pub mod PeakListLaws
pub mod Records
