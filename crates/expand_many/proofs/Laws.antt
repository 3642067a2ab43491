-- Laws of mobility peaks expanded one after another.
use mathlib.Core.Path.{◌≡◌, refl, sym, ap, ◌∙◌, subst}
use mathlib.Core.List.{List, [], ◌∷◌, ◌++◌, map-append, append_assoc}
use Prim.Native.Nat.{ℕ, zero, suc, ◌+◌, ◌-◌, ◌*◌, ◌≤◌, ◌<◌}
use native.Mathlib.Nat.{mul-le-mul_right, add-mul}
use native.Mathlib.Numerals.{add-one}
use native.Mathlib.Omega.{arith}
use borrow.Rule.Slice.PartMut.{put_mid}
use lib.ListN.{length, get_or, take, drop, set, length-map, length-append, length-take, length-drop}
use lib.Seq.{take_at, drop_at, drop-drop, get_or-take}
use lib.Ieee.{Float}
use Rattle.limits.specs.Limits.{identities}
use Rattle.row_record.specs.Record.{peak_at}
use Rattle.row_record.specs.declared.ImPeak1D.{ImPeak1D}
use Rattle.row_record.proofs.Laws.{put-part}
use Rattle.rt_record.specs.RtRecord.{rt_size}
use Rattle.rt_record.specs.declared.RtPeak1D.{RtPeak1D}
use Rattle.sort_digits.specs.Sorted.{up_to}
use Rattle.sort_digits.proofs.UpTo.{upto-length}
use Rattle.expand_trace.specs.FallbackPeaks.{peak_words, Put}
use Rattle.expand_trace.proofs.Peaks.{words-join, words-length, put-start}
use Rattle.rt_params.specs.declared.RtExpandParams.{RtExpandParams}
use Rattle.expand_peak.specs.Expanded.{Run, expanded}
use Rattle.expand_one.specs.Steps.{most, Expandable}
use Rattle.expand_many.specs.Many.{Many, sum_to, weights_at, expanded_at, joined_to, count_of, counts_to}
use Rattle.expand_many.specs.Steps.{Ready, Done, Reachable, PutBehind}
use Rattle.expand_many.proofs.Few.{expanded-few}
use Rattle.numeric.proofs.Lists.{push}
use Rattle.numeric.proofs.Laws.{product-step}

-- ---- sums and products

pub sum-start : (l : List ℕ) → 0 ≡ sum_to l 0
unfolding sum_to
sum-start l = refl

pub sum-next : (l : List ℕ) (k : ℕ) → sum_to l (k + 1) ≡ sum_to l k + get_or l k 0
unfolding sum_to
sum-next l k = ap (sum_to l) (add-one k)

-- the first k of n add up to no more than all of them
pub sum-le : (l : List ℕ) (k n : ℕ) → k ≤ n → sum_to l k ≤ sum_to l n
sum-le l k n h = subst (λ (j : ℕ). sum_to l k ≤ sum_to l j) (omega arith) (go (n - k))
  where
    go : (d : ℕ) → sum_to l k ≤ sum_to l (k + d)
    go zero = let e : k + 0 ≡ k = omega arith in rw e (omega arith)
    go (suc d) =
        let e : k + suc d ≡ k + d + 1 = omega arith in
        rw (e, sum-next l (k + d)) (omega (arith, go d))

-- ---- peaks behind others

-- through the part of a list that lies behind them
pub put-behind : (ps : List RtPeak1D) (was last : List ℕ) (total r : ℕ) → Put ps (take (length was - total * rt_size) (drop (total * rt_size) was)) r last
    → PutBehind ps was total r (put_mid (total * rt_size) (length was - total * rt_size) was last)
put-behind ps was last total r f = record { count = f.count; words = put-part was (peak_words ps) last (total * rt_size) (r * rt_size) f.words }

-- what expanding a peak there asks, and what it leaves
module _ (run : Run) (list : List ℕ) (i : ℕ) (weights : List Float) (at len first total : ℕ) (was : List ℕ) (p : ImPeak1D) (is : p ≡ peak_at list i) where
  cut-is : take (at + len - at) (drop at weights) ≡ take len (drop at weights)
  cut-is = let e : at + len - at ≡ len = omega arith in rw e

  pub reached : Reachable run list i weights at len first total (length was)
      → Expandable run (take (at + len - at) (drop at weights)) p first (length (take (length was - total * rt_size) (drop (total * rt_size) was)))
  reached h =
      let e : length (take (length was - total * rt_size) (drop (total * rt_size) was)) ≡ length was - total * rt_size = rw (length-take, length-drop) (omega arith) in
      rw (cut-is, is, e) h.peak

  pub put-reached : (e : RtExpandParams) (r : ℕ) (last : List ℕ)
      → Put (expanded run e (take (at + len - at) (drop at weights)) p first) (take (length was - total * rt_size) (drop (total * rt_size) was)) r last
      → PutBehind (expanded run e (take len (drop at weights)) (peak_at list i) first) was total r (put_mid (total * rt_size) (length was - total * rt_size) was last)
  put-reached e r last f = put-behind (expanded run e (take len (drop at weights)) (peak_at list i) first) was last total r (rw (cut-is, is) at f)

-- both together
pub put-more : (ps qs : List RtPeak1D) (was is last : List ℕ) (total r : ℕ) → Put ps was total is → PutBehind qs is total r last → Put (ps ++ qs) was (total + r) last
put-more ps qs was is last total r f g =
    let K = total * rt_size in
    let long : length (peak_words ps) ≡ K = words-length ps ∙ ap (λ (m : ℕ). m * rt_size) (sym f.count) in
    let t : take K is ≡ peak_words ps = ap (take K) f.words ∙ take_at (peak_words ps) (drop K was) K long in
    let q : drop K is ≡ drop K was = ap (drop K) f.words ∙ drop_at (peak_words ps) (drop K was) K long in
    let v : drop (K + r * rt_size) is ≡ drop ((total + r) * rt_size) was =
    sym (drop-drop (r * rt_size) K is) ∙ ap (drop (r * rt_size)) q ∙ drop-drop (r * rt_size) K was ∙ ap (λ (i : ℕ). drop i was) (sym (add-mul total r rt_size)) in
    record {
      count = sym (length-append ps qs ∙ omega (arith, f.count, g.count));
      words = g.words ∙ rw (t, v, words-join ps qs) (sym (append_assoc (peak_words ps) (peak_words qs) (drop ((total + r) * rt_size) was)));
    }

-- ---- one peak after another

pub joined-next : (m : Many) (k : ℕ) → joined_to m (k + 1) ≡ joined_to m k ++ expanded_at m k (m.first + length (joined_to m k))
unfolding joined_to
joined-next m k = ap (joined_to m) (add-one k)

counts-next : (m : Many) (k : ℕ) → counts_to m (k + 1) ≡ counts_to m k ++ (count_of m k ∷ [])
unfolding up_to
counts-next m k = ap (counts_to m) (add-one k) ∙ map-append (count_of m) (up_to k) (k ∷ [])

counts-length : (m : Many) (k : ℕ) → length (counts_to m k) ≡ k
counts-length m k = length-map (up_to k) (count_of m) ∙ upto-length k

-- none yet
pub done-start : (m : Many) (out counts : List ℕ) → Done m 0 out counts 0 out counts
unfolding joined_to up_to
done-start m out counts = record { peaks = put-start out; counted = refl }

-- all of them
pub done_end : (m : Many) (i n r : ℕ) (out counts out₁ counts₁ : List ℕ) → i ≡ n → Done m i out counts r out₁ counts₁ → Done m n out counts r out₁ counts₁
done_end m i n r out counts out₁ counts₁ e d = subst (λ (k : ℕ). Done m k out counts r out₁ counts₁) e d

module _ (m : Many) (n out counts : ℕ) (h : Ready m n out counts) where
  joined-few : (k : ℕ) → k ≤ n → length (joined_to m k) ≤ k * most (length m.run.ids)
  unfolding joined_to
  joined-few zero l = omega arith
  joined-few (suc k) l =
      let M = most (length m.run.ids) in
      let e : suc k * M ≡ k * M + M = rw (← add-one) (product-step k M) in
      let one = expanded-few m.run m.params (weights_at m k) (peak_at m.list k) (m.first + length (joined_to m k)) (h.numbers k (omega arith)) in
      let few = joined-few k (omega arith) in
      rw (e, length-append) (add-le _ _ _ _ few one)
    where
      add-le : (a b c d : ℕ) → a ≤ c → b ≤ d → a + b ≤ c + d
      add-le a b c d f g = omega arith

  -- a turn at the peak at place i, with `total` retention peaks before it
  module _ (i total : ℕ) (high : i < n) (is : total ≡ length (joined_to m i)) where
    pub turn-most : total + most (length m.run.ids) ≤ n * most (length m.run.ids)
    turn-most = go (most (length m.run.ids)) (rw is (joined-few i (omega arith)))
      where
        go : (M : ℕ) → total ≤ i * M → total + M ≤ n * M
        go M few =
            let b : (i + 1) * M ≤ n * M = mul-le-mul_right M (omega arith) in
            omega (arith, few, b, product-step i M)

    -- identities are left
    pub turn-id : m.first + total < identities
    turn-id = go (most (length m.run.ids)) (n * most (length m.run.ids)) (omega arith) turn-most h.named
      where
        go : (M N : ℕ) → 1 ≤ M → total + M ≤ N → m.first + N ≤ identities → m.first + total < identities
        go M N a b c = omega arith

    -- and words
    pub turn-room : total * rt_size + most (length m.run.ids) * rt_size ≤ out
    turn-room = go (most (length m.run.ids)) (n * most (length m.run.ids)) turn-most h.room
      where
        go : (M N : ℕ) → total + M ≤ N → N * rt_size ≤ out → total * rt_size + M * rt_size ≤ out
        go M N b c = omega arith

    pub turn-weights : sum_to m.lengths i + get_or m.lengths i 0 ≤ length m.weights
    turn-weights = omega (arith, sum-next m.lengths i, sum-le m.lengths (i + 1) n (omega arith), h.joined)

    turn-named : m.first + total + most (length m.run.ids) ≤ identities
    turn-named = go (most (length m.run.ids)) (n * most (length m.run.ids)) turn-most h.named
      where
        go : (M N : ℕ) → total + M ≤ N → m.first + N ≤ identities → m.first + total + M ≤ identities
        go M N b c = omega arith

    pub turn-reachable : (at len words : ℕ) → at ≡ sum_to m.lengths i → len ≡ get_or m.lengths i 0 → words ≡ out
        → Reachable m.run m.list i m.weights at len (m.first + total) total words
    unfolding weights_at
    turn-reachable at len words a l w =
        let M = most (length m.run.ids) in
        let peaks = h.peaks in
        let room = turn-room in
        rw (a, l, w)
        (record {
          there = omega (arith, peaks, high);
          weighed = turn-weights;
          behind = le_of (total * rt_size) (M * rt_size) out room;
          peak = record {
            weights = h.weights i high;
            numbers = h.numbers i high;
            named = turn-named;
            room = rest_of (total * rt_size) (M * rt_size) out room;
          };
        })
      where
        le_of : (a b c : ℕ) → a + b ≤ c → a ≤ c
        le_of a b c f = omega arith

        rest_of : (a b c : ℕ) → a + b ≤ c → b ≤ c - a
        rest_of a b c f = omega arith

    -- and after it
    module _ (r at len : ℕ) (out₀ out₁ out₂ counts₀ counts₁ : List ℕ) (a : at ≡ sum_to m.lengths i) (l : len ≡ get_or m.lengths i 0) (d : Done m i out₀ counts₀ total out₁ counts₁)
        (f : PutBehind (expanded m.run m.params (take len (drop at m.weights)) (peak_at m.list i) (m.first + total)) out₁ total r out₂) where
      own : PutBehind (expanded_at m i (m.first + length (joined_to m i))) out₁ total r out₂
      unfolding weights_at
      own =
          let g : PutBehind (expanded_at m i (m.first + total)) out₁ total r out₂ = rw (a, l) at f in
          subst (λ (j : ℕ). PutBehind (expanded_at m i (m.first + j)) out₁ total r out₂) is g

      pub turn-count : r ≤ most (length m.run.ids)
      turn-count = rw own.count (expanded-few m.run m.params (weights_at m i) (peak_at m.list i) (m.first + length (joined_to m i)) (h.numbers i high))

      pub turn-done : n ≤ length counts₀ → Done m (i + 1) out₀ counts₀ (total + r) out₂ (set counts₁ i r)
      turn-done c =
          record {
            peaks = rw (joined-next m i) (put-more (joined_to m i) (expanded_at m i (m.first + length (joined_to m i))) out₀ out₁ out₂ total r d.peaks own);
            counted =
                ap (λ (v : List ℕ). set v i r) d.counted
                ∙ push (counts_to m i) counts₀ i r (counts-length m i) (omega arith)
                ∙ ap (λ (v : List ℕ). v ++ drop (i + 1) counts₀) (ap (λ (v : ℕ). counts_to m i ++ (v ∷ [])) own.count ∙ sym (counts-next m i));
          }

-- ---- the front of a list of lengths
pub front-sum : (lengths : List ℕ) (n k : ℕ) → k ≤ n → sum_to (take n lengths) k ≡ sum_to lengths k
unfolding sum_to
front-sum lengths n zero h = refl
front-sum lengths n (suc k) h = rw (front-sum lengths n k (omega arith), get_or-take n lengths k 0 (omega arith))

pub front-weights : (m : Many) (n k : ℕ) → k < n → weights_at (record m { lengths = take n m.lengths }) k ≡ weights_at m k
unfolding weights_at
front-weights m n k h = rw (front-sum m.lengths n k (omega arith), get_or-take n m.lengths k 0 h)

pub front-joined : (m : Many) (n k : ℕ) → k ≤ n → joined_to (record m { lengths = take n m.lengths }) k ≡ joined_to m k
unfolding joined_to
front-joined m n zero h = refl
front-joined m n (suc k) h = rw (front-joined m n k (omega arith), front-weights m n k (omega arith))
