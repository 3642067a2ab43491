-- Of apexes that lie close to one another only one is chosen, and of those chosen only some are listed: the definitions, and the
-- account of every apex that is not listed. An apex is an index. Nothing is said here of what makes two apexes near, of heights
-- or of shares: these are given as `near`, `is_no_lower` and `share`.
use Rattle.std.specs.Prelude.{◌≡◌, Bool, true, false, cond, List, [], ◌∷◌, ◌++◌, ◌⊎◌, ◌↔◌, ◌≢◌, ℕ}
use Rattle.row_search.specs.Account.{◌∈◌, All}

-- ---- lists

-- each of the list is so related to all that follow it
abbrev pub Each : (ℕ → ℕ → Type 0) → List ℕ → Type 0
Each R [] = Unit {0}
Each R (i ∷ is) = All (R i) is × Each R is

-- none stands twice
abbrev pub Distinct : List ℕ → Type 0
Distinct l = Each (λ i j. i ≢ j) l

-- ---- the choice

-- i is near one of the list
unfoldable pub near_any : (ℕ → ℕ → Bool) → ℕ → List ℕ → Bool
near_any near i [] = false
near_any near i (j ∷ js) = cond (near i j) true (near_any near i js)

-- i joins those chosen so far, unless it is near one of them
unfoldable pub choose : (ℕ → ℕ → Bool) → List ℕ → ℕ → List ℕ
choose near ks i = cond (near_any near i ks) ks (ks ++ (i ∷ []))

-- one after the other
unfoldable pub choose_all : (ℕ → ℕ → Bool) → List ℕ → List ℕ → List ℕ
choose_all near ks [] = ks
choose_all near ks (i ∷ is) = choose_all near (choose near ks i) is

-- those chosen from an order, in that order
abbrev pub chosen : (ℕ → ℕ → Bool) → List ℕ → List ℕ
chosen near order = choose_all near [] order

-- those of a list that pass a test
unfoldable pub passing : (ℕ → Bool) → List ℕ → List ℕ
passing test [] = []
passing test (i ∷ is) = cond (test i) (i ∷ passing test is) (passing test is)

-- those chosen whose share is large enough
abbrev pub listed : (ℕ → ℕ → Bool) → (ℕ → Bool) → List ℕ → List ℕ
listed near share order = passing share (chosen near order)

-- ---- the account

-- What is asked of an order of apexes. `near i j`: i and j are near each other. `is_no_lower i j`: j is no lower than i.
pub record Ranked (near is_no_lower : ℕ → ℕ → Bool) (order : List ℕ) : Type 0 where
  pub distinct : Distinct order
  pub higher-first : Each (λ i j. is_no_lower j i ≡ true) order
  pub both_ways : All (λ i. All (λ j. near i j ≡ near j i) order) order

-- the apex i is near another one of ks that is no lower
pub record GivesWay (near is_no_lower : ℕ → ℕ → Bool) (ks : List ℕ) (i : ℕ) : Type 0 where
  pub to : ℕ
  pub among : to ∈ ks
  pub other : to ≢ i
  pub no_lower : is_no_lower i to ≡ true
  pub close : near i to ≡ true

-- What holds of every ranked order: those chosen are distinct apexes of the order, no two near each
-- other; those listed are distinct and are the chosen ones with the share; and an apex is missing from the list exactly if it
-- is near another chosen one that is no lower, or lacks the share.
pub record Accounted (near is_no_lower : ℕ → ℕ → Bool) (share : ℕ → Bool) (order : List ℕ) : Type 0 where
  pub chosen-some : All (λ i. i ∈ order) (chosen near order)
  pub chosen-distinct : Distinct (chosen near order)
  pub chosen-apart : (i j : ℕ) → i ∈ chosen near order → j ∈ chosen near order → i ≢ j → near i j ≡ false
  pub listed-distinct : Distinct (listed near share order)
  pub listed-are : (i : ℕ) → (i ∈ listed near share order) ↔ ((i ∈ chosen near order) × (share i ≡ true))
  pub missing : (i : ℕ) → i ∈ order → (i ∈ listed near share order → ⊥) ↔ (GivesWay near is_no_lower (chosen near order) i ⊎ (share i ≡ false))

-- every ranked order is accounted for: `account` in proofs/ChosenLaws.antt
abbrev pub AllAccounted : Type 0
AllAccounted =
    (near is_no_lower : ℕ → ℕ → Bool) (share : ℕ → Bool) (order : List ℕ) → Ranked near is_no_lower order → Accounted near is_no_lower share order
