-- What the steps of the code find or do, each as its contract says it.
use Rattle.std.specs.Prelude.{◌≡◌, List, ℕ, ◌-◌, ◌*◌, ◌≤◌, ◌<◌, get_or, Float}
use Rattle.std.specs.Float.{binary32}
use Rattle.std.specs.Float.Ieee.{of_bits}
use Rattle.row_spans.specs.Memo.{entry, word_of, kept_span}
use Rattle.row_spans.specs.declared.inner.Span.{Span}

-- the first r of d spans are left, and the last of them ends right of i
pub record Open (memo : List ℕ) (d i r : ℕ) : Type 0 where
  pub few : r ≤ d
  pub right : 0 < r → i < word_of memo (r - 1) 2

-- i lies strictly between two feet
pub record Between (from to i : ℕ) : Type 0 where
  pub behind : from < i
  pub before : i < to

-- the span s at the height h, with its feet, stands at place t, and the words before it are as they were
pub record Kept (h : Float) (from to : ℕ) (s : Span) (t : ℕ) (before after : List ℕ) : Type 0 where
  pub height : of_bits binary32 (word_of after t 0) ≡ h
  pub left : word_of after t 1 ≡ from
  pub right : word_of after t 2 ≡ to
  pub span : kept_span after t ≡ s
  pub others : (k : ℕ) → k < t * entry → get_or after k 0 ≡ get_or before k 0
