-- Spans that were measured once and serve again. All readings between the feet of a long span are above its height, so an apex between
-- them that has the same height has the same span.
use Rattle.std.specs.Prelude.{◌≡◌, List, ℕ, ◌+◌, ◌*◌, ◌≤◌, ◌<◌, length, get_or, Float}
use Rattle.std.specs.Float.{binary32}
use Rattle.std.specs.Float.Ieee.{of_bits}
use Rattle.row_spans.specs.Span.{span_of, if_wide}
use Rattle.row_spans.specs.declared.inner.Span.{Span}
use Rattle.row_spans.specs.declared.inner.Look.{Look}

-- the words of a kept span: its height, its feet, and what was measured
abbrev pub entry : ℕ
entry = 9

abbrev pub word_of : List ℕ → ℕ → ℕ → ℕ
word_of memo t j = get_or memo (t * entry + j) 0

-- the span at place t
unfoldable pub kept_span : List ℕ → ℕ → Span
kept_span memo t =
    record {
      left = word_of memo t 3;
      right = word_of memo t 4;
      width = word_of memo t 5;
      left_x = of_bits binary32 (word_of memo t 6);
      right_x = of_bits binary32 (word_of memo t 7);
      area = of_bits binary32 (word_of memo t 8);
    }

-- the span at place t was measured left of i, and it is that of every apex of its height between its feet
pub record Serves (y z : List Float) (memo : List ℕ) (i t : ℕ) : Type 0 where
  pub behind : word_of memo t 1 < i
  pub serves : (j : ℕ) → word_of memo t 1 < j → j < word_of memo t 2 → kept_span memo t ≡ span_of y z (of_bits binary32 (word_of memo t 0)) j

-- so do the first d
pub record Memo (y z : List Float) (memo : List ℕ) (d i : ℕ) : Type 0 where
  pub few : d * entry ≤ length memo
  pub all : (t : ℕ) → t < d → Serves y z memo i t

-- what is seen of the apex at i: its span, where it is wide enough; the memo then has `depth` spans
pub record Looked (y z : List Float) (h : Float) (i least : ℕ) (memo : List ℕ) (r : Look) : Type 0 where
  pub span : r.span ≡ if_wide least (span_of y z h i)
  pub kept : Memo y z memo r.depth (i + 1)
