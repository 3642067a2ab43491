-- The walk over the places, step by step.
use mathlib.Core.Path.{◌≡◌, refl, sym, ap, subst, ◌∙◌}
use mathlib.Core.List.Memᴰ
use mathlib.Core.List.{Memᴰ}
use mathlib.Core.Bool.{Bool, true, false, ◌&&◌}
use mathlib.Core.List.{List, [], ◌∷◌, ◌++◌, map, reverse, reverse-cons, foldl-append, append_assoc, append-nil, map-append}
use Prim.Native.Nat.{ℕ, suc, ◌+◌, ◌-◌, ◌*◌, ◌<◌, ◌≤◌}
use native.Mathlib.Omega.{arith}
use native.Mathlib.Numerals.{add-one}
use Rattle.std.proofs.lemmas.List.{get_or-map}
use lib.ListN.{length, get_or, take, drop, set, length-append, length-map, length-drop, drop_of_length-le, take-append-drop}
use lib.Seq.{take-suc, get_or-drop, get_or-take, length-take-le, drop-cons}
use borrow.Author.Tests.{eqb-true}
use lib.Dec.{eqb}
use Rattle.std.specs.Prelude.{Option, Some, None, nat_eq}
use Rattle.std.specs.Option.{option_eq}
use Rattle.refusal.proofs.Bools.{both}
use Rattle.row_record.specs.Record.{size, peak_at, words_of, with_peak}
use Rattle.row_record.specs.declared.ImPeak1D.{ImPeak1D}
use Rattle.stitch_peaks.specs.PeakList.{no_peak, nth, peaks_of, list_words}
use Rattle.stitch_peaks.proofs.PeakListLaws.{peaks-length, nth-peaks, same-peaks, words-length, words-one}
use Rattle.row_record.proofs.RoundTrip.{own-words}
use Rattle.stitch_matching.specs.declared.StitchParams.{StitchParams}
use Rattle.stitch_matching.specs.declared.inner.Spans.{Spans}
use Rattle.stitch_matching.specs.Group.{Covers, may_join}
use Rattle.stitch_keys.specs.declared.KeyRule.{KeyRule}
use Rattle.stitch_keys.specs.declared.inner.Bucket.{Bucket}
use Rattle.stitch_keys.specs.Keys.{is_same_bucket}
use Rattle.stitch_merging.specs.Merging.{merged}
use Rattle.stitch_grouping.specs.Grouping.{bucket_by, peaks_at, follows, groups_from, groups, group_peaks}
use Rattle.stitch_grouping.specs.Walk.{part, Gathered, Columned, Cut, numbered, marked, Grouped}
use Rattle.stitch_grouping.proofs.GroupingLaws.{groups-join, groups-close}
use Rattle.numeric.proofs.Lists.{fill-behind}

-- ---- lists

-- ---- groups

pub groups-from : (rule : KeyRule) (params : StitchParams) (ps : List ImPeak1D) (q : ℕ) (qs : List ℕ) → groups rule params ps (q ∷ qs) ≡ groups_from rule params ps (q ∷ []) qs
unfolding groups
groups-from rule params ps q qs = refl

-- whether a peak follows, from what the tests tell
pub follows-told : (rule : KeyRule) (params : StitchParams) (q : ImPeak1D) (qs : List ImPeak1D) (p : ImPeak1D) (b : Bucket) (x y : Bool)
    → b ≡ bucket_by rule q → x ≡ is_same_bucket b (bucket_by rule p) → y ≡ may_join params (q ∷ qs) p → follows rule params (q ∷ qs) p ≡ x && y
unfolding follows
follows-told rule params q qs p b x y e f g = rw (f, e, g)

-- a peak that follows is of the same bucket
in_one : (rule : KeyRule) (params : StitchParams) (q : ImPeak1D) (qs : List ImPeak1D) (p : ImPeak1D) → follows rule params (q ∷ qs) p ≡ true → is_same_bucket (bucket_by rule q) (bucket_by rule p) ≡ true
unfolding follows
in_one rule params q qs p h = (both (is_same_bucket (bucket_by rule q) (bucket_by rule p)) h).0

-- ---- what is written of one more

pub groups-one : (ps : List ImPeak1D) (gs : List (List ℕ)) (g : List ℕ) → list_words (group_peaks ps (gs ++ (g ∷ []))) ≡ list_words (group_peaks ps gs) ++ words_of (merged (peaks_at ps g))
unfolding group_peaks
groups-one ps gs g =
    ap list_words (map-append (λ h. merged (peaks_at ps h)) gs (g ∷ [])) ∙ words-one (map (λ h. merged (peaks_at ps h)) gs) (merged (peaks_at ps g))

pub groups-words : (ps : List ImPeak1D) (gs : List (List ℕ)) → length (list_words (group_peaks ps gs)) ≡ length gs * size
unfolding group_peaks
groups-words ps gs = words-length (map (λ h. merged (peaks_at ps h)) gs) ∙ ap (λ (n : ℕ). n * size) (length-map gs (λ h. merged (peaks_at ps h)))

pub numbered-one : (k : ℕ) (g : List ℕ) (q : ℕ) (column : List ℕ) → numbered k (g ++ (q ∷ [])) column ≡ set (numbered k g column) q k
unfolding numbered
numbered-one k g q column = foldl-append (λ so p. set so p k) column g (q ∷ [])

pub marked-one : (k : ℕ) (gs : List (List ℕ)) (g column : List ℕ) → marked k (gs ++ (g ∷ [])) column ≡ numbered (k + length gs) g (marked k gs column)
unfolding marked
marked-one k [] g column = let e : k + length {A = List ℕ} [] ≡ k = omega arith in rw e
marked-one k (f ∷ gs) g column =
    let e : k + 1 + length gs ≡ k + length (f ∷ gs) = omega arith in
    marked-one (k + 1) gs g (numbered k f column) ∙ ap (λ (n : ℕ). numbered n g (marked (k + 1) gs (numbered k f column))) e

-- ---- parts of an order

pub part_none : (order : List ℕ) (i : ℕ) → part order i i ≡ []
unfolding part
part_none order i = let e : i - i ≡ 0 = omega arith in rw e

pub part-more : (order : List ℕ) (i k : ℕ) → i ≤ k → k < length order → part order i (k + 1) ≡ part order i k ++ (get_or order k 0 ∷ [])
unfolding part
part-more order i k h l =
    let e : k + 1 - i ≡ suc (k - i) = omega arith in
    let at : i + (k - i) ≡ k = omega arith in
    ap (λ (n : ℕ). take n (drop i order)) e
    ∙ take-suc (drop i order) (k - i) 0 (omega (arith, length-drop i order))
    ∙ ap (λ (q : ℕ). take (k - i) (drop i order) ++ (q ∷ [])) (get_or-drop i order (k - i) 0 ∙ ap (λ (n : ℕ). get_or order n 0) at)

pub part-first : (order : List ℕ) (i : ℕ) → i < length order → part order i (i + 1) ≡ get_or order i 0 ∷ []
part-first order i l = part-more order i i (omega arith) l ∙ ap (λ (g : List ℕ). g ++ (get_or order i 0 ∷ [])) (part_none order i)

-- the peaks of records, from the first on
pub first-peak : (words : List ℕ) → peaks_of words 1 ≡ peak_at words 0 ∷ []
unfolding peaks_of
first-peak words = refl

pub next-peaks : (words : List ℕ) (n : ℕ) → peaks_of words (n + 1) ≡ peaks_of words n ++ (peak_at words n ∷ [])
unfolding peaks_of
next-peaks words n = rw add-one refl

-- the records of a part of an order are those of its peaks
pub part-peaks : (ps : List ImPeak1D) (sorted order : List ℕ) (i k : ℕ) → i ≤ k → k ≤ length order → k * size ≤ length sorted → Gathered ps sorted order
    → (n : ℕ) → n ≡ k - i → peaks_of (take (k * size - i * size) (drop (i * size) sorted)) n ≡ peaks_at ps (part order i k)
unfolding part
part-peaks ps sorted order i k a b h g n e =
    let records = take (k * size - i * size) (drop (i * size) sorted) in
    let places = take (k - i) (drop i order) in
    let many : length places ≡ n = length-take-le (k - i) (drop i order) (omega (arith, length-drop i order)) ∙ sym e in
    same-peaks (peaks_of records n) (map (nth ps) places) (peaks-length records n ∙ sym many ∙ sym (length-map places (nth ps))) (λ j l.
    let inside : j < n = omega (arith, l, peaks-length records n) in
    nth-peaks records n j inside
    ∙ own-words records sorted (j * size) ((i + j) * size) (λ d m.
    let at : i * size + (j * size + d) ≡ (i + j) * size + d = omega arith in
    get_or-take (k * size - i * size) (drop (i * size) sorted) (j * size + d) 0 (omega (arith, inside, e)) ∙ get_or-drop (i * size) sorted (j * size + d) 0 ∙ ap (λ x. get_or sorted x 0) at)
    ∙ g (i + j) (omega (arith, inside, e))
    ∙ ap (nth ps) (sym (get_or-take (k - i) (drop i order) j 0 (omega (arith, inside, e)) ∙ get_or-drop i order j 0))
    ∙ sym (get_or-map (nth ps) places j 0 no_peak (omega (arith, inside, many))))

-- a part of places that a column has
pub columned-part : (column order : List ℕ) (i n : ℕ) → Columned column order → Columned column (take n (drop i order))
columned-part column order i n h p m =
    h p
    (subst (Memᴰ p) (take-append-drop i order)
    (Memᴰ.append_right (take i order) (subst (Memᴰ p) (take-append-drop n (drop i order)) (Memᴰ.append_left (drop n (drop i order)) m))))

-- ---- where a group ends

-- buckets that are the same one
made : Option ℕ → ℕ → ℕ → Bucket
made a b d = record { group = a; scans = b; rows = d }

same_option : (x y : Option ℕ) → option_eq nat_eq x y ≡ true → x ≡ y
same_option None None h = refl
same_option None (Some n) h = absurd (cc)
same_option (Some m) None h = absurd (cc)
same_option (Some m) (Some n) h = ap Some (eqb-true m n h)

pub same-bucket : (x y : Bucket) → is_same_bucket x y ≡ true → x ≡ y
unfolding made
same-bucket x y h =
    let a = both (option_eq nat_eq x.group y.group && eqb x.scans y.scans) h in
    let b = both (option_eq nat_eq x.group y.group) a.0 in
    let e : x.group ≡ y.group = same_option x.group y.group b.0 in
    let f : x.scans ≡ y.scans = eqb-true x.scans y.scans b.1 in
    let g : x.rows ≡ y.rows = eqb-true x.rows y.rows a.1 in
    let s : made x.group x.scans x.rows ≡ made y.group y.scans y.rows = rw (e, f, g) in s

-- The tests have come to the k-th place: the group that starts at the i-th goes on to there. Its newest member stands before the k-th place,
-- the others are `older`, newest first.
pub record Begun (rule : KeyRule) (params : StitchParams) (ps : List ImPeak1D) (order : List ℕ) (i k : ℕ) (b : Bucket) (s : Spans) : Type 0 where
  pub older : List ℕ
  pub whole : groups rule params ps (drop i order) ≡ groups_from rule params ps (get_or order (k - 1) 0 ∷ older) (drop k order)
  pub places : reverse (get_or order (k - 1) 0 ∷ older) ≡ part order i k
  pub bucket : b ≡ bucket_by rule (nth ps (get_or order (k - 1) 0))
  pub spans : Covers s (nth ps (get_or order (k - 1) 0) ∷ peaks_at ps older)

module _ (rule : KeyRule) (params : StitchParams) (ps : List ImPeak1D) (order : List ℕ) (i : ℕ) where
  here : (k : ℕ) → get_or order (k + 1 - 1) 0 ≡ get_or order k 0
  here k = let e : k + 1 - 1 ≡ k = omega arith in rw e

  pub begun_first : (b : Bucket) (s : Spans) → i < length order → b ≡ bucket_by rule (nth ps (get_or order i 0)) → Covers s (nth ps (get_or order i 0) ∷ [])
      → Begun rule params ps order i (i + 1) b s
  begun_first b s l h k = record {
    older = [];
    whole = ap (groups rule params ps) (drop-cons order i 0 l) ∙ rw (here i, add-one) (groups-from rule params ps (get_or order i 0) (drop (suc i) order));
    places = rw (here i) (sym (part-first order i l));
    bucket = rw (here i) h;
    spans = rw (here i) k;
  }

  module _ (k : ℕ) (b : Bucket) (s : Spans) (w : Begun rule params ps order i k b s) (h : i < k) (l : k < length order) where
    next : drop k order ≡ get_or order k 0 ∷ drop (k + 1) order
    next = rw (add-one, drop-cons order k 0)

    abbrev last : ImPeak1D
    last = nth ps (get_or order (k - 1) 0)

    pub begun_more : (s' : Spans) → follows rule params (last ∷ peaks_at ps w.older) (nth ps (get_or order k 0)) ≡ true
        → Covers s' (nth ps (get_or order k 0) ∷ (last ∷ peaks_at ps w.older)) → Begun rule params ps order i (k + 1) b s'
    begun_more s' f v = record {
      older = get_or order (k - 1) 0 ∷ w.older;
      whole = rw (here k) (w.whole ∙ ap (groups_from rule params ps (get_or order (k - 1) 0 ∷ w.older)) next ∙ groups-join rule params ps (get_or order (k - 1) 0 ∷ w.older) (get_or order k 0) (drop (k + 1) order) f);
      places = rw (here k) (reverse-cons (get_or order k 0) (get_or order (k - 1) 0 ∷ w.older) ∙ ap (λ (g : List ℕ). g ++ (get_or order k 0 ∷ [])) w.places ∙ sym (part-more order i k (omega arith) l));
      bucket = rw (here k) (w.bucket ∙ same-bucket (bucket_by rule last) (bucket_by rule (nth ps (get_or order k 0))) (in_one rule params last (peaks_at ps w.older) (nth ps (get_or order k 0)) f));
      spans = rw (here k) v;
    }

    pub cut-before : follows rule params (last ∷ peaks_at ps w.older) (nth ps (get_or order k 0)) ≡ false → Cut rule params ps order i k
    cut-before f =
        w.whole ∙ ap (groups_from rule params ps (get_or order (k - 1) 0 ∷ w.older)) next
        ∙ groups-close rule params ps (get_or order (k - 1) 0 ∷ w.older) (get_or order k 0) (drop (k + 1) order) f
        ∙ rw (w.places, next) (ap (λ gs. part order i k ∷ gs) (sym (groups-from rule params ps (get_or order k 0) (drop (k + 1) order))))

  pub cut-end : (k : ℕ) (b : Bucket) (s : Spans) → Begun rule params ps order i k b s → length order ≤ k → Cut rule params ps order i k
  unfolding groups groups_from
  cut-end k b s w l = let e = drop_of_length-le order {i = k} l in rw e (rw (e, w.places) at w.whole)

-- ---- the walk

-- The walk has come to the i-th place, before which the groups `closed` are written.
pub record Walked (rule : KeyRule) (params : StitchParams) (ps : List ImPeak1D) (order merged₀ column₀ : List ℕ) (i number : ℕ) (out column : List ℕ) : Type 0 where
  pub closed : List (List ℕ)
  pub whole : groups rule params ps order ≡ closed ++ groups rule params ps (drop i order)
  pub count : number ≡ length closed
  pub records : out ≡ list_words (group_peaks ps closed) ++ drop (number * size) merged₀
  pub marks : column ≡ marked 0 closed column₀

module _ (rule : KeyRule) (params : StitchParams) (ps : List ImPeak1D) (order merged₀ column₀ : List ℕ) where
  pub walk_start : Walked rule params ps order merged₀ column₀ 0 0 merged₀ column₀
  unfolding list_words group_peaks marked
  walk_start = record { closed = []; whole = refl; count = refl; records = refl; marks = refl }

  module _ (i number : ℕ) (out column : List ℕ) (w : Walked rule params ps order merged₀ column₀ i number out column) where
    pub walk-group : (k : ℕ) → Cut rule params ps order i k → (out' : List ℕ) → out' ≡ with_peak out number (merged (peaks_at ps (part order i k)))
        → Walked rule params ps order merged₀ column₀ k (number + 1) out' (numbered number (part order i k) column)
    unfolding with_peak
    walk-group k cut out' e =
        let g = part order i k in
        let f : length (list_words (group_peaks ps w.closed)) ≡ number * size = omega (arith, groups-words ps w.closed, w.count) in
        let more : (number + 1) * size ≡ number * size + size = omega arith in
        let own : number ≡ 0 + length w.closed = omega (arith, w.count) in
        record {
          closed = w.closed ++ (g ∷ []);
          whole = w.whole ∙ ap (λ gs. w.closed ++ gs) cut ∙ sym (append_assoc w.closed (g ∷ []) (groups rule params ps (drop k order)));
          count = simp length-append (omega (arith, w.count));
          records = e ∙ rw (more, groups-one ps w.closed g) (fill-behind (list_words (group_peaks ps w.closed)) (words_of (merged (peaks_at ps g))) merged₀ out (number * size) size f w.records);
          marks = ap (numbered number g) w.marks ∙ ap (λ (n : ℕ). numbered n g (marked 0 w.closed column₀)) own ∙ sym (marked-one 0 w.closed g column₀);
        }

    -- at the end
    pub walk_end : length order ≤ i → Grouped rule params ps order merged₀ column₀ number out column
    unfolding groups
    walk_end l =
        let all : groups rule params ps order ≡ w.closed = w.whole ∙ ap (λ (qs : List ℕ). w.closed ++ groups rule params ps qs) (drop_of_length-le order {i = i} l) ∙ append-nil w.closed in
        record { counted = w.count ∙ ap length (sym all); records = rw all w.records; marks = rw all w.marks }

-- what is told of two peaks as they are read is told of the two that they are
pub told-join : (params : StitchParams) (s : Spans) (older : List ImPeak1D) {a b last p : ImPeak1D} {r : Bool} → a ≡ last → b ≡ p
    → ((ps : List ImPeak1D) → Covers s (a ∷ ps) → r ≡ may_join params (a ∷ ps) b) → Covers s (last ∷ older) → r ≡ may_join params (last ∷ older) p
told-join params s older e f told w = rw (← e, ← f) (told older (rw e w))
