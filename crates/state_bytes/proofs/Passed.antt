-- What the tests of handed-back lists tell: the facts behind refusals 6 and 12, one by one. Assumes nothing.
use Prim.Native.Nat.{ℕ, ◌+◌, ◌*◌, ◌≤◌, ◌<◌}
use native.Mathlib.Omega.{arith}
use mathlib.Core.Path.{◌≡◌, sym, ◌∙◌}
use mathlib.Core.Bool.{true}
use mathlib.Core.List.{List, [], ◌∷◌}
use lib.ListN.{length, get_or}
use lib.Dec.{eqb, leb}
use borrow.Author.Tests.{leb-true, eqb-true}
use Rattle.byte_fields.specs.Bytes.{number_at, all_below}
use Rattle.state_bytes.specs.Layout.{Lists, set_at, setup_in, count_in, state_length, lock_coupled, head_fits, settings_fit, set_fits, node_fits_at, thread_fits_at, ascends, state_fits, lengths_fit, handed_back_fit}
use Rattle.byte_fields.proofs.Bytes.{all_below_each}
use Rattle.state_bytes.proofs.Tests.{each_passed}
use Rattle.state_bytes.proofs.RoundTrip.{state_tests, node_tests}

-- ---- refusal 6

pub record Long (l : Lists) (commands : List ℕ) : Type 0 where
  pub state : length l.state ≡ state_length
  pub answers : length l.answers ≡ count_in l.state
  pub keys : length l.keys ≡ number_at 2 4 l.state
  pub commands_are : length commands ≡ 16 * count_in l.state

pub lengths_passed : (l : Lists) (commands : List ℕ) → handed_back_fit l commands ≡ true → Long l commands
unfolding handed_back_fit lengths_fit setup_in
lengths_passed l commands fit =
    let capacity = number_at 2 4 l.state in
    let count = count_in l.state in
    let each = each_passed (eqb (length l.state) state_length) (eqb (length l.answers) count ∷ eqb (length l.keys) capacity
    ∷ eqb (length l.chutes) capacity ∷ eqb (length commands) (16 * count) ∷ []) fit in
    record { state = eqb-true _ _ (each 0); answers = eqb-true _ _ (each 1); keys = eqb-true _ _ (each 2); commands_are = eqb-true _ _ (each 4) }

-- ---- refusal 12

pub record InRange (l : Lists) : Type 0 where
  pub size : number_at 1 1 l.state ≤ 150
  pub workers : number_at 1 2 l.state ≤ 64
  pub largest : number_at 1 3 l.state ≤ 64
  pub chain : number_at 1 0 l.state ≡ lock_coupled
  pub limit : (1 ≤ number_at 1 13 l.state) × (number_at 1 13 l.state ≤ number_at 1 3 l.state)
  pub capacity : number_at 2 4 l.state ≤ 4096
  pub count : count_in l.state ≤ 4096
  pub free : number_at 1 12 l.state ≤ 150
  pub next : (n : ℕ) → n < 151 → get_or l.state (14 + n) 0 ≤ 150
  pub seq : (n : ℕ) → n < 151 → number_at 2 (165 + 2 * n) l.state ≤ count_in l.state
  pub executing : (n : ℕ) → n < 151 → get_or l.state (467 + n) 0 ≤ 1
  pub locked : (n : ℕ) → n < 151 → get_or l.state (618 + n) 0 ≤ 1
  pub threads : (t : ℕ) → t < 65 → thread_fits_at l.state (number_at 1 1 l.state) t ≡ true

-- the settings' own tests
record SettingsInRange (size workers largest capacity count : ℕ) : Type 0 where
  size_is : size ≤ 150
  workers_are : workers ≤ 64
  largest_is : largest ≤ 64
  capacity_is : capacity ≤ 4096
  count_is : count ≤ 4096

settings_passed : (size workers largest capacity count : ℕ) → settings_fit size workers largest capacity count ≡ true → SettingsInRange size workers largest capacity count
unfolding settings_fit
settings_passed size workers largest capacity count fit =
    let each = each_passed (leb 1 size) (leb size 150 ∷ leb 1 workers ∷ leb workers 64 ∷ leb 1 largest ∷ leb largest 64 ∷ leb 1 capacity ∷ leb capacity 4096 ∷ leb count 4096 ∷ []) fit in
    record { size_is = leb-true _ _ (each 1); workers_are = leb-true _ _ (each 3); largest_is = leb-true _ _ (each 5); capacity_is = leb-true _ _ (each 7); count_is = leb-true _ _ (each 8) }

-- the chain's and the count's
head_passed : (chain limit largest : ℕ) → head_fits chain limit largest ≡ true → (chain ≡ lock_coupled) × (1 ≤ limit) × (limit ≤ largest)
unfolding head_fits
head_passed chain limit largest fit =
    let each = each_passed (eqb chain lock_coupled) (leb 1 limit ∷ leb limit largest ∷ []) fit in
    (eqb-true _ _ (each 0), leb-true _ _ (each 1), leb-true _ _ (each 2))

-- a node's
record NodeInRange (b : List ℕ) (size count n : ℕ) : Type 0 where
  next_is : get_or b (14 + n) 0 ≤ size
  seq_is : number_at 2 (165 + 2 * n) b ≤ count
  executing_is : get_or b (467 + n) 0 ≤ 1
  locked_is : get_or b (618 + n) 0 ≤ 1

node_passed : (b : List ℕ) (size count n : ℕ) → node_fits_at b size count n ≡ true → NodeInRange b size count n
node_passed b size count n fit =
    let each = each_passed (leb (get_or b (14 + n) 0) size) (leb (number_at 2 (165 + 2 * n) b) count ∷ leb (get_or b (467 + n) 0) 1 ∷ leb (get_or b (618 + n) 0) 1
    ∷ set_fits (set_at b n) size ∷ []) (sym (node_tests b size count n) ∙ fit) in
    record { next_is = leb-true _ _ (each 0); seq_is = leb-true _ _ (each 1); executing_is = leb-true _ _ (each 2); locked_is = leb-true _ _ (each 3) }

-- and all of them
pub state_passed : (l : Lists) → state_fits l ≡ true → InRange l
state_passed l fit =
    let b = l.state in
    let size = number_at 1 1 b in
    let count = count_in b in
    let each = each_passed (head_fits (number_at 1 0 b) (number_at 1 13 b) (number_at 1 3 b)) (settings_fit size (number_at 1 2 b) (number_at 1 3 b) (number_at 2 4 b) count
    ∷ leb (number_at 2 8 b) count ∷ leb (number_at 1 12 b) size
    ∷ all_below 151 (node_fits_at b size count) ∷ all_below 65 (thread_fits_at b size) ∷ leb (number_at 2 10 b) (number_at 2 4 b)
    ∷ ascends (number_at 2 10 b) l.keys ∷ []) (sym (state_tests l) ∙ fit) in
    let head = head_passed (number_at 1 0 b) (number_at 1 13 b) (number_at 1 3 b) (each 0) in
    let settings = settings_passed size (number_at 1 2 b) (number_at 1 3 b) (number_at 2 4 b) count (each 1) in
    let node : (n : ℕ) → n < 151 → NodeInRange b size count n = λ n h. node_passed b size count n (all_below_each 151 (node_fits_at b size count) (each 4) n h) in
    record {
      size = settings.size_is;
      workers = settings.workers_are;
      largest = settings.largest_is;
      chain = head.0;
      limit = (head.1, head.2);
      capacity = settings.capacity_is;
      count = settings.count_is;
      free = omega (arith, leb-true (number_at 1 12 b) size (each 3), settings.size_is);
      next = λ n h. omega (arith, (node n h).next_is, settings.size_is);
      seq = λ n h. (node n h).seq_is;
      executing = λ n h. (node n h).executing_is;
      locked = λ n h. (node n h).locked_is;
      threads = all_below_each 65 (thread_fits_at b size) (each 5);
    }
