-- Laws of numbers as bytes and of fields one after the other: each is read back where it lies. Assumes nothing.
use Prim.Native.Nat.{ℕ, zero, suc, ◌+◌, ◌*◌, ◌/◌, ◌%◌, ◌^◌, ◌≤◌, ◌<◌}
use native.Mathlib.Nat.{pow-suc, pow-succ', mod-eq_of_lt, mul-add-div_right, mul-add-mod_self_right, mod-one, div-one, zero-add, add-zero, mul-zero, le_refl}
use native.Mathlib.Omega.{arith}
use mathlib.Core.Path.{◌≡◌, refl, sym, ap, ap₂, ◌∙◌}
use mathlib.Core.Bool.{Bool, true, false, and-eq-true_iff}
use mathlib.Core.List.{List, [], ◌∷◌, ◌++◌, append_assoc, append-nil}
use lib.ListN.{length, get_or, take, drop, length-append, length-take, length-drop, get_or-append, get_or-eq_default}
use lib.Seq.{length-take-le, drop-cons, get_or-take, get_or-drop, take_at, drop_at, get_or-append-add, take-add, drop-drop}
use lib.Arith.{mod-mul, digits_lt, digits_div}
use lib.Dec.{ltb}
use borrow.Author.Tests.{ltb-true, ltb-false}
use borrow.Author.Count.{below_more}
use Rattle.byte_fields.specs.Bytes.{bytes_of, number_after, number_at, tabulate, fields, all_below}

-- a number is below another, or is not
pub below_or_past {ℓ} : {P : Type ℓ} (n k : ℕ) → (n < k → P) → (k ≤ n → P) → P
below_or_past {P} n k below past = go (ltb n k) refl
  where
    go : (t : Bool) → ltb n k ≡ t → P
    go true e = below (ltb-true n k e)
    go false e = past (ltb-false n k e)

-- a fact, and those after it
infixr 5 ◌▸◌
abbrev pub ◌▸◌ : {A B : Type 0} → A → B → A × B
a ▸ b = (a, b)

-- ---- bytes of a number

-- one byte for each step
pub bytes_length : (k n : ℕ) → length (bytes_of k n) ≡ k
unfolding bytes_of
bytes_length zero n = refl
bytes_length (suc k) n = ap suc (bytes_length k n)

-- a power of 256 is at least 1
pow_positive : (k : ℕ) → 0 < 256 ^ k
pow_positive zero = le_refl 1
pow_positive (suc k) = omega (arith, pow-suc 256 k, pow_positive k)

-- the bytes read back are the last k bytes of the number: each adds its digit
number_of_bytes : (k a n : ℕ) → number_after a (bytes_of k n) ≡ a * 256 ^ k + n % 256 ^ k
unfolding bytes_of number_after
number_of_bytes zero a n = omega (arith, mod-one n)
number_of_bytes (suc k) a n =
    let low = mod-mul n {m = 256} {c = 256 ^ k} (omega arith) (pow_positive k) in
    number_of_bytes k (a * 256 + n / 256 ^ k % 256) n ∙ rw (pow-succ' 256 k, low) (omega arith)

-- so a number that fits k bytes is read back
pub bytes_read_back : (k n : ℕ) → n < 256 ^ k → number_after 0 (bytes_of k n) ≡ n
bytes_read_back k n h = number_of_bytes k 0 n ∙ omega (arith, mod-eq_of_lt h)

-- ---- the number of bytes

-- the bytes before count for the powers above
number_after_lem : (a : ℕ) (bs : List ℕ) → number_after a bs ≡ a * 256 ^ length bs + number_after 0 bs
unfolding number_after
number_after_lem a [] = omega arith
number_after_lem a (b ∷ bs) = number_after_lem (a * 256 + b) bs ∙ rw (pow-succ' 256 (length bs), number_after_lem (0 + b) bs) (omega arith)

-- every element is a byte, those past the end being 0
abbrev pub Bytes : List ℕ → Type 0
Bytes bs = (i : ℕ) → get_or bs i 0 < 256

-- bytes write a number below the power of their count
pub number_below : (bs : List ℕ) → Bytes bs → number_after 0 bs < 256 ^ length bs
unfolding number_after
number_below [] h = omega arith
number_below (b ∷ bs) h =
    rw (number_after_lem (0 + b) bs, zero-add b, pow-succ' 256 (length bs)) (digits_lt (h 0) (number_below bs (λ i. h (suc i))))

-- what stands above the last k bytes does not change them
bytes_of_sum : (k a n : ℕ) → bytes_of k (a * 256 ^ k + n) ≡ bytes_of k n
unfolding bytes_of
bytes_of_sum zero a n = refl
bytes_of_sum (suc k) a n =
    let e : a * 256 ^ suc k + n ≡ a * 256 * 256 ^ k + n = rw (pow-succ' 256 k) (omega arith) in
    let first : (a * 256 * 256 ^ k + n) / 256 ^ k % 256 ≡ n / 256 ^ k % 256 =
    ap (λ (x : ℕ). x % 256) (mul-add-div_right (pow_positive k) (a * 256) n) ∙ mul-add-mod_self_right a 256 (n / 256 ^ k) in
    rw e (ap₂ {C = List ℕ} ◌∷◌ first (bytes_of_sum k (a * 256) n))

-- the bytes of the number that bytes write are these bytes
pub number_read_back : (bs : List ℕ) → Bytes bs → bytes_of (length bs) (number_after 0 bs) ≡ bs
unfolding bytes_of number_after
number_read_back [] h = refl
number_read_back (b ∷ bs) h =
    let below = number_below bs (λ i. h (suc i)) in
    let e : number_after (0 + b) bs ≡ b * 256 ^ length bs + number_after 0 bs = rw (zero-add b) (number_after_lem b bs) in
    let first : (b * 256 ^ length bs + number_after 0 bs) / 256 ^ length bs % 256 ≡ b =
    ap (λ (x : ℕ). x % 256) (digits_div b below) ∙ mod-eq_of_lt (h 0) in
    rw e (ap₂ {C = List ℕ} ◌∷◌ first (bytes_of_sum (length bs) b (number_after 0 bs) ∙ number_read_back bs (λ i. h (suc i))))

-- every part of bytes is bytes
pub taken_bytes : (k at : ℕ) (bytes : List ℕ) → Bytes bytes → Bytes (take k (drop at bytes))
taken_bytes k at bytes h i =
    below_or_past i k
    (λ l. rw (get_or-take k (drop at bytes) i 0 l, get_or-drop at bytes i 0) (h (at + i)))
    (λ l. rw (get_or-eq_default (take k (drop at bytes)) 0 {n = i} (omega (arith, length-take k (drop at bytes)))) (omega arith))

-- a part inside is as long as asked
taken_length : (k at : ℕ) (bytes : List ℕ) → at + k ≤ length bytes → length (take k (drop at bytes)) ≡ k
taken_length k at bytes fits = length-take-le k (drop at bytes) (rw (length-drop at bytes) (omega arith))

-- the bytes of a number read are those that stand there
pub number_stands : (k at : ℕ) (bytes : List ℕ) → Bytes bytes → at + k ≤ length bytes → bytes_of k (number_at k at bytes) ≡ take k (drop at bytes)
unfolding number_at
number_stands k at bytes h fits =
    ap (λ (n : ℕ). bytes_of n (number_after 0 (take k (drop at bytes)))) (sym (taken_length k at bytes fits))
    ∙ number_read_back (take k (drop at bytes)) (taken_bytes k at bytes h)

-- and the number fits them
pub number_read_below : (k at : ℕ) (bytes : List ℕ) → Bytes bytes → at + k ≤ length bytes → number_at k at bytes < 256 ^ k
unfolding number_at
number_read_below k at bytes h fits = rw (taken_length k at bytes fits) at (number_below (take k (drop at bytes)) (taken_bytes k at bytes h))

-- one byte
pub one_byte : (n : ℕ) → n < 256 → bytes_of 1 n ≡ n ∷ []
unfolding bytes_of
one_byte n h = ap (λ (x : ℕ). x ∷ []) (ap (λ (x : ℕ). x % 256) (div-one n) ∙ mod-eq_of_lt h)

-- one element that stands somewhere, and what stands after it
pub next_stands : (k at next : ℕ) (bytes : List ℕ) → next ≡ suc at → at < length bytes → take (suc k) (drop at bytes) ≡ get_or bytes at 0 ∷ take k (drop next bytes)
next_stands k at next bytes e h =
    ap (take (suc k)) (drop-cons bytes at 0 h) ∙ ap (λ (p : ℕ). get_or bytes at 0 ∷ take k (drop p bytes)) (sym e)

-- ---- lists made of parts

-- Where a part lies in bytes: after `at` others.
pub record Lies (part : List ℕ) (at : ℕ) (bytes : List ℕ) : Type 0 where
  pub before : List ℕ
  pub after : List ℕ
  pub place : length before ≡ at
  pub is : bytes ≡ before ++ (part ++ after)

-- bytes lie in themselves
pub lies_whole : (bytes : List ℕ) → Lies bytes 0 bytes
lies_whole bytes = record { before = []; after = []; place = refl; is = sym (append-nil bytes) }

-- the first part of a part
pub lies_first : (xs ys : List ℕ) {at : ℕ} {bytes : List ℕ} → Lies (xs ++ ys) at bytes → Lies xs at bytes
lies_first xs ys l = record { before = l.before; after = ys ++ l.after; place = l.place; is = l.is ∙ ap (λ (r : List ℕ). l.before ++ r) (append_assoc xs ys l.after) }

-- the rest of a part, after k others
pub lies_rest : (xs ys : List ℕ) {at : ℕ} {bytes : List ℕ} (k : ℕ) → length xs ≡ k → Lies (xs ++ ys) at bytes → Lies ys (at + k) bytes
lies_rest xs ys k long l = record {
  before = l.before ++ xs;
  after = l.after;
  place = length-append l.before xs ∙ ap₂ ◌+◌ l.place long;
  is = l.is ∙ simp append_assoc;
}

-- it is what stands there
pub lies_taken : {part : List ℕ} {at : ℕ} {bytes : List ℕ} (k : ℕ) → length part ≡ k → Lies part at bytes → take k (drop at bytes) ≡ part
lies_taken {part} {at} {bytes} k long l =
    ap (λ (b : List ℕ). take k (drop at b)) l.is ∙ ap (take k) (drop_at l.before (part ++ l.after) at l.place) ∙ take_at part l.after k long

-- element by element
pub lies_element : {part : List ℕ} {at : ℕ} {bytes : List ℕ} → Lies part at bytes → (i : ℕ) → i < length part → get_or bytes (at + i) 0 ≡ get_or part i 0
lies_element {part} {at} {bytes} l i h =
    ap₂ (λ (b : List ℕ) (p : ℕ). get_or b (p + i) 0) l.is (sym l.place) ∙ get_or-append-add l.before (part ++ l.after) i 0 ∙ get_or-append part l.after 0 i h

-- a number is read where its bytes lie
pub lies_number : (k n : ℕ) {at : ℕ} {bytes : List ℕ} → n < 256 ^ k → Lies (bytes_of k n) at bytes → number_at k at bytes ≡ n
unfolding number_at
lies_number k n h l = ap (number_after 0) (lies_taken k (bytes_length k n) l) ∙ bytes_read_back k n h

-- ---- parts one after the other

abbrev pub joined : List (List ℕ) → List ℕ
joined [] = []
joined (part ∷ parts) = part ++ joined parts

abbrev pub total : List ℕ → ℕ
total [] = 0
total (n ∷ ns) = n + total ns

abbrev pub HaveLengths : List (List ℕ) → List ℕ → Type 0
HaveLengths [] lengths = Unit {0}
HaveLengths (part ∷ parts) [] = ⊥
HaveLengths (part ∷ parts) (n ∷ ns) = (length part ≡ n) × HaveLengths parts ns

-- parts one after the other are as long as they are together
pub joined_length : (parts : List (List ℕ)) (lengths : List ℕ) → HaveLengths parts lengths → length (joined parts) ≡ total (take (length parts) lengths)
joined_length [] lengths long = refl
joined_length (part ∷ parts) [] long = absurd long
joined_length (part ∷ parts) (n ∷ ns) long = length-append part (joined parts) ∙ ap₂ ◌+◌ long.0 (joined_length parts ns long.1)

-- each part lies after the lengths of those before it
pub lies_part : (parts : List (List ℕ)) (lengths : List ℕ) → HaveLengths parts lengths → {at : ℕ} {bytes : List ℕ} → Lies (joined parts) at bytes
    → (i : ℕ) → i < length parts → Lies (get_or parts i []) (at + total (take i lengths)) bytes
lies_part [] lengths long l i h = absurd (omega arith)
lies_part (part ∷ parts) [] long l i h = absurd long
lies_part (part ∷ parts) (n ∷ ns) long {at} {bytes} l zero h = rw (add-zero at) (lies_first part (joined parts) l)
lies_part (part ∷ parts) (n ∷ ns) long {at} {bytes} l (suc i) h =
    let e : at + (n + total (take i ns)) ≡ at + n + total (take i ns) = omega arith in
    rw e (lies_part parts ns long.1 (lies_rest part (joined parts) n long.0 l) i (omega arith))

-- each part is what stands at its place
abbrev pub StandAt : List (List ℕ) → List ℕ → ℕ → List ℕ → Type 0
StandAt [] lengths at bytes = Unit {0}
StandAt (part ∷ parts) [] at bytes = ⊥
StandAt (part ∷ parts) (n ∷ ns) at bytes = (part ≡ take n (drop at bytes)) × StandAt parts ns (at + n) bytes

-- parts that stand one after the other are together what stands there
pub parts_of_lem : (parts : List (List ℕ)) (lengths : List ℕ) (at : ℕ) (bytes : List ℕ) → StandAt parts lengths at bytes
    → joined parts ≡ take (total (take (length parts) lengths)) (drop at bytes)
parts_of_lem [] lengths at bytes stand = refl
parts_of_lem (part ∷ parts) [] at bytes stand = absurd stand
parts_of_lem (part ∷ parts) (n ∷ ns) at bytes stand =
    rw (stand.0, parts_of_lem parts ns (at + n) bytes stand.1, take-add n (total (take (length parts) ns)) (drop at bytes), drop-drop n at bytes)

-- ---- fields of one length

module _ (len : ℕ) where
  -- as many as there are parts
  pub fields_length : (n : ℕ) (f : ℕ → List ℕ) → ((i : ℕ) → length (f i) ≡ len) → length (fields n f) ≡ len * n
  unfolding fields
  fields_length zero f long = omega arith
  fields_length (suc n) f long =
      length-append (f 0) (fields n (λ i. f (suc i))) ∙ omega (arith, long 0, fields_length n (λ i. f (suc i)) (λ i. long (suc i)))

  -- part i lies after i others
  pub lies_field : (n : ℕ) (f : ℕ → List ℕ) → ((i : ℕ) → length (f i) ≡ len) → {at : ℕ} {bytes : List ℕ} → Lies (fields n f) at bytes
      → (i : ℕ) → i < n → Lies (f i) (at + len * i) bytes
  unfolding fields
  lies_field zero f long l i h = absurd (omega arith)
  lies_field (suc n) f long {at} {bytes} l zero h = let e : at + len * 0 ≡ at = omega arith in rw e (lies_first _ (fields n (λ j. f (suc j))) l)
  lies_field (suc n) f long {at} {bytes} l (suc i) h =
      let e : at + len * suc i ≡ at + len + len * i = omega arith in
      rw e (lies_field n (λ j. f (suc j)) (λ j. long (suc j)) (lies_rest (f 0) _ len (long 0) l) i (omega arith))

  -- so part i, and each of its elements, is read there
  pub field_taken : (n : ℕ) (f : ℕ → List ℕ) → ((i : ℕ) → length (f i) ≡ len) → (i : ℕ) → i < n → take len (drop (len * i) (fields n f)) ≡ f i
  field_taken n f long i h = rw (← zero-add (len * i)) (lies_taken len (long i) (lies_field n f long (lies_whole (fields n f)) i h))

  pub field_element : (n : ℕ) (f : ℕ → List ℕ) → ((i : ℕ) → length (f i) ≡ len) → (i j : ℕ) → i < n → j < len
      → get_or (fields n f) (i * len + j) 0 ≡ get_or (f i) j 0
  field_element n f long i j h k =
      let e : i * len + j ≡ 0 + len * i + j = omega arith in
      rw e (lies_element (lies_field n f long (lies_whole (fields n f)) i h) j (omega (arith, long i)))

  -- fields that are the parts of bytes, one after the other, are what stands there
  pub fields_of : (n : ℕ) (f : ℕ → List ℕ) (at : ℕ) (bytes : List ℕ) → ((i : ℕ) → i < n → f i ≡ take len (drop (at + len * i) bytes))
      → fields n f ≡ take (len * n) (drop at bytes)
  unfolding fields
  fields_of zero f at bytes part = rw (mul-zero len)
  fields_of (suc n) f at bytes part =
      let later : (i : ℕ) → at + len * suc i ≡ at + len + len * i = λ i. omega arith in
      let rest = fields_of n (λ i. f (suc i)) (at + len) bytes (λ i h. rw (← later i) (part (suc i) (omega arith))) in
      let first : f 0 ≡ take len (drop at bytes) = part 0 (omega arith) ∙ rw (mul-zero len, add-zero at) in
      let all : len * suc n ≡ len + len * n = omega arith in
      rw (first, rest, all, take-add len (len * n) (drop at bytes), drop-drop len at bytes)

-- ---- tabulated lists

pub tabulate_length {ℓ} : {A : Type ℓ} (n : ℕ) (f : ℕ → A) → length (tabulate n f) ≡ n
unfolding tabulate
tabulate_length zero f = refl
tabulate_length (suc n) f = ap suc (tabulate_length n (λ i. f (suc i)))

pub tabulate_at {ℓ} : {A : Type ℓ} (n : ℕ) (f : ℕ → A) (d : A) (i : ℕ) → i < n → get_or (tabulate n f) i d ≡ f i
unfolding tabulate
tabulate_at zero f d i h = absurd (omega arith)
tabulate_at (suc n) f d zero h = refl
tabulate_at (suc n) f d (suc i) h = tabulate_at n (λ j. f (suc j)) d i (omega arith)

-- past the end there is the default
pub tabulate_past {ℓ} : {A : Type ℓ} (n : ℕ) (f : ℕ → A) (d : A) (i : ℕ) → n ≤ i → get_or (tabulate n f) i d ≡ d
tabulate_past n f d i h = get_or-eq_default (tabulate n f) d (rw (tabulate_length n f) h)

-- a list that has these elements is tabulated
pub tabulate_is {ℓ} : {A : Type ℓ} (n : ℕ) (f : ℕ → A) (xs : List A) (d : A) → length xs ≡ n → ((i : ℕ) → i < n → f i ≡ get_or xs i d) → tabulate n f ≡ xs
unfolding tabulate
tabulate_is zero f [] d long same = refl
tabulate_is zero f (x ∷ xs) d long same = absurd (omega arith)
tabulate_is (suc n) f [] d long same = absurd (omega arith)
tabulate_is (suc n) f (x ∷ xs) d long same =
    ap₂ ◌∷◌ (same 0 (omega arith)) (tabulate_is n (λ i. f (suc i)) xs d (omega arith) (λ i h. same (suc i) (omega arith)))

pub tabulate_elements {ℓ} : {A : Type ℓ} (n : ℕ) (xs : List A) (d : A) → length xs ≡ n → tabulate n (λ i. get_or xs i d) ≡ xs
tabulate_elements n xs d long = tabulate_is n (λ i. get_or xs i d) xs d long (λ i h. refl)

-- ---- tests of the first k numbers

pub all_below_each : (k : ℕ) (test : ℕ → Bool) → all_below k test ≡ true → (n : ℕ) → n < k → test n ≡ true
unfolding all_below
all_below_each zero test e n h = absurd (omega arith)
all_below_each (suc k) test e n h =
    let both = (and-eq-true_iff (test k) (all_below k test)).0 e in
    below_more (λ (m : ℕ). test m ≡ true) k (all_below_each k test both.1) both.0 n (omega arith)

pub each_all_below : (k : ℕ) (test : ℕ → Bool) → ((n : ℕ) → n < k → test n ≡ true) → all_below k test ≡ true
unfolding all_below
each_all_below zero test each = refl
each_all_below (suc k) test each =
    (and-eq-true_iff (test k) (all_below k test)).1 (each k (omega arith), each_all_below k test (λ n h. each n (omega arith)))
