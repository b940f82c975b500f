-- Laws of the dispatcher's calls at the boundary: what lists of another length answer, what a call on the numbers that were read comes to, and
-- what it leaves in the bytes. Assumes nothing.
use Prim.Native.Nat.{ℕ, ◌<◌}
use mathlib.Core.Path.{◌≡◌, refl, sym, ap, ◌∙◌}
use mathlib.Core.Bool.{Bool, true, false, cond, ◌&&◌, and-true, and-eq-true_iff}
use mathlib.Core.List.{List, []}
use native.Mathlib.Omega.{arith}
use lib.ListN.{length}
use lib.Dec.{eqb}
use borrow.Author.Tests.{eq-eqb, ne_eqb}
use Rattle.s10.specs.declared.Refusal.{Refusal}
use Rattle.s10.specs.Refusal.{plain}
use Rattle.byte_fields.specs.Bytes.{bytes_of, pasted}
use Rattle.byte_fields.proofs.Bytes.{bytes_length}
use Rattle.byte_fields.proofs.Paste.{pasted_whole}
use Rattle.state_bytes.specs.Layout.{Lists, all_lists, lists, state_length, setup_in, state_fits, lengths_fit, handed_back_fit, image_fits}
use Rattle.dispatcher.specs.Calls.{needed_on, Made, DispatchOutcome, made, refused, dispatch_on, refusal_in, count_in, lists_left, lent_left}
use Rattle.dispatcher.proofs.Answer.{decided}
use Rattle.depot_c.specs.Numbers.{bytes_in}
use Rattle.state_bytes.specs.declared.Reason.{Reason}
use Rattle.state_bytes.specs.Outcome.{refusal_for}
use Rattle.depot_c.specs.Boundary.{are_whole, number_lists, decoded, encoded, packed, made_left}
use Rattle.depot_c.specs.Lent.{are_lent, UnlentFor}
use Rattle.depot_c.proofs.Outcomes.{room, lent, all_fit, long_unfit, unlent_cases, unlent_as, same_fit, decoded_none, decoded_whole}
use Rattle.depot_c.proofs.Reporting.{unfit_refused}

-- ---- the count's bytes

-- what stands in the count's list after an answer
abbrev counted : ℕ → ℕ → List ℕ → List ℕ
counted answer n old = cond (eqb answer 0) (bytes_of 8 n) old

-- a refusal leaves the list
pub uncounted : {answer : ℕ} (n : ℕ) (old : List ℕ) → (answer ≡ 0 → ⊥) → old ≡ counted answer n old
uncounted {answer} n old some = rw (ne_eqb answer 0 some)

-- eight bytes that were put into a list of eight are the whole list
pub put_count : {answer n m : ℕ} (old : List ℕ) {new : List ℕ} → answer ≡ 0 → length old ≡ 8 → new ≡ pasted 0 (bytes_of 8 n) old → n ≡ m → new ≡ counted answer m old
put_count {answer} {n} old zero long put is = rw (eq-eqb answer 0 zero) (put ∙ pasted_whole (bytes_of 8 n) old (bytes_length 8 n ∙ sym long) ∙ ap (bytes_of 8) is)

-- ---- how long the lent list must be

-- no lists are refused 6
pub nothing_needed : (commands : List ℕ) → needed_on (lists [] [] [] []) commands ≡ 6
unfolding needed_on handed_back_fit lengths_fit state_length
nothing_needed commands = refl

-- a handed-back list of more than 4,096 entries is refused: 12 where the state asks for so many, else 6
pub long_needed : (b : Lists) (commands : List ℕ) → room b ≡ false → cond (handed_back_fit (number_lists b) commands) 12 6 ≡ needed_on (number_lists b) commands
unfolding needed_on
long_needed b commands long = unfit_refused (handed_back_fit (number_lists b) commands) (state_fits (number_lists b)) (long_unfit b commands long)

-- lists that are not lent are refused
pub unlent_needed : (s k c a commands : List ℕ) (reason : Reason) → are_lent (length k) (length c) (length a) ≡ false
    → UnlentFor s (length k) (length c) (length a) (length commands) true reason → refusal_for reason ≡ plain (needed_on (decoded (lists s k c a)) commands)
unlent_needed s k c a commands reason e said =
    let b = lists s k c a in
    let whole = are_whole (length k) (length c) (length a) in
    let fit = handed_back_fit (number_lists b) commands in
    let is : needed_on (decoded b) commands ≡ cond (whole && (fit && true)) 12 6 =
    unlent_cases b e (λ broken. rw (broken, decoded_none b broken) (nothing_needed commands)) (λ w long. rw (w, decoded_whole b w, and-true fit) (sym (long_needed b commands long))) in
    unlent_as s k c a [] commands true reason said ∙ ap plain (sym is)

-- what is told of a number n, where the count's list is as long as asked
abbrev NeededTold : ℕ → ℕ → List ℕ → ℕ → List ℕ → Type 0
NeededTold n turns old answer new = let long = eqb (length old) 8 in (answer ≡ cond long n 6) × (new ≡ counted (cond long n 6) turns old)

-- a refusal is answered, and the count is left
pub needed_refused : {x y : Refusal} (n turns : ℕ) (old : List ℕ) → length old ≡ 8 → 0 < x.number → y ≡ x → x ≡ plain n → NeededTold n turns old (packed y) old
needed_refused {x} {y} n turns old long some e is =
    rw (eq-eqb (length old) 8 long) (omega (arith, ap packed (e ∙ is)), uncounted turns old (λ z. omega (arith, some, ap (λ (r : Refusal). r.number) is)))

-- else the number of steps is written
pub needed_told : {n : ℕ} (turns : ℕ) (old : List ℕ) {new : List ℕ} → length old ≡ 8 → 0 ≡ n → new ≡ pasted 0 (bytes_of 8 turns) old → NeededTold n turns old 0 new
needed_told {n} turns old long zero put = rw (eq-eqb (length old) 8 long) (zero, put_count old (sym zero) long put refl)

-- ---- dispatching

-- what is told of an outcome, where the count's list is as long as asked
pub record Told (o : DispatchOutcome) (b : Lists) (schedule count : List ℕ) (answer : ℕ) (after : Lists) (schedule' count' : List ℕ) : Type 0 where
  pub number : answer ≡ cond (eqb (length count) 8) (packed (refusal_in o)) 6
  pub left : after ≡ cond (eqb (length count) 8) (made_left o b) b
  pub written : schedule' ≡ cond (eqb (length count) 8) (lent_left o schedule) schedule
  pub counted_is : count' ≡ counted (cond (eqb (length count) 8) (packed (refusal_in o)) 6) (count_in o) count

module _ (o : DispatchOutcome) (b : Lists) (schedule count : List ℕ) where
  -- an outcome that is a refusal is answered, and everything is left
  pub told_refused : {x y : Refusal} → length count ≡ 8 → 0 < x.number → y ≡ x → x ≡ refusal_in o → Told o b schedule count (packed y) b schedule count
  unfolding refusal_in made_left lent_left count_in
  told_refused {x} {y} long some e is = rw e (by o is)
    where
      by : (o : DispatchOutcome) → x ≡ refusal_in o → Told o b schedule count (packed x) b schedule count
      by (made d) is = absurd (omega (arith, some, ap (λ (r : Refusal). r.number) is))
      by (refused r) is = record {
        number = rw (eq-eqb (length count) 8 long) (ap packed is);
        left = rw (eq-eqb (length count) 8 long);
        written = rw (eq-eqb (length count) 8 long);
        counted_is = rw (eq-eqb (length count) 8 long) (uncounted _ count (λ z. omega (arith, some, z, ap (λ (r : Refusal). r.number) is)));
      }

  -- the lists and the schedule that a call leaves
  pub left_as : {after : Lists} → length count ≡ 8 → after ≡ made_left o b → after ≡ cond (eqb (length count) 8) (made_left o b) b
  left_as long is = rw (eq-eqb (length count) 8 long) is

  pub written_as : {schedule' : List ℕ} → length count ≡ 8 → schedule' ≡ lent_left o schedule → schedule' ≡ cond (eqb (length count) 8) (lent_left o schedule) schedule
  written_as long is = rw (eq-eqb (length count) 8 long) is

  -- one that is made is answered 0, and its lists, schedule and count are written
  pub told_made : {after : Lists} {schedule' count' : List ℕ} {n : ℕ} → length count ≡ 8 → plain 0 ≡ refusal_in o → after ≡ made_left o b → schedule' ≡ lent_left o schedule
      → n ≡ count_in o → count' ≡ pasted 0 (bytes_of 8 n) count → Told o b schedule count 0 after schedule' count'
  told_made {after} {schedule'} {count'} {n} long is lists_are schedule_is steps put =
      let zero : packed (refusal_in o) ≡ 0 = ap packed (sym is) in
      record {
        number = rw (eq-eqb (length count) 8 long) (sym zero);
        left = rw (eq-eqb (length count) 8 long) lists_are;
        written = rw (eq-eqb (length count) 8 long) schedule_is;
        counted_is = rw (eq-eqb (length count) 8 long) (put_count count zero long put steps);
      }

-- no lists are refused 6
pub nothing_dispatched : (commands lent : List ℕ) → dispatch_on (lists [] [] [] []) commands lent ≡ refused (plain 6)
unfolding handed_back_fit lengths_fit state_length
nothing_dispatched commands lent = decided (lists [] [] [] []) commands lent refl refl refl refl

-- lists that fit only with a state that does not are refused 12, and others 6
unfit : (fit state : Bool) (o : DispatchOutcome) → (fit ≡ true → state ≡ false)
    → cond fit (cond state o (refused (plain 12))) (refused (plain 6)) ≡ cond fit (refused (plain 12)) (refused (plain 6))
unfit true state o broken = rw (broken refl)
unfit false state o broken = refl

-- so is a handed-back list of more than 4,096 entries
pub long_dispatched : (b : Lists) (commands lent : List ℕ) → room b ≡ false
    → dispatch_on (number_lists b) commands lent ≡ cond (all_fit (number_lists b) commands) (refused (plain 12)) (refused (plain 6))
long_dispatched b commands lent long =
    decided (number_lists b) commands lent refl refl refl refl
    ∙ unfit (all_fit (number_lists b) commands) (state_fits (number_lists b)) _ (λ fit. long_unfit b commands long ((and-eq-true_iff (handed_back_fit (number_lists b) commands) _).0 fit).0)

-- lists that are not lent are refused
unlent_dispatched : (b : Lists) (commands lent_list : List ℕ) → lent b ≡ false
    → dispatch_on (decoded b) commands lent_list ≡ cond (are_whole (length b.keys) (length b.chutes) (length b.answers) && all_fit (number_lists b) commands) (refused (plain 12)) (refused (plain 6))
unlent_dispatched b commands lent_list e =
    unlent_cases b e (λ broken. rw (broken, decoded_none b broken) (nothing_dispatched commands lent_list)) (λ whole long. rw (whole, decoded_whole b whole) (long_dispatched b commands lent_list long))

either_refusal : (t : Bool) → plain (cond t 12 6) ≡ refusal_in (cond t (refused (plain 12)) (refused (plain 6)))
unfolding refusal_in
either_refusal true = refl
either_refusal false = refl

pub unlent_answered : (s k c a i commands lent_list : List ℕ) (fit : Bool) (reason : Reason) → are_lent (length k) (length c) (length a) ≡ false
    → (handed_back_fit (number_lists (all_lists s k c a i)) commands ≡ true → image_fits (setup_in s commands).capacity (number_lists (all_lists s k c a i)) ≡ fit)
    → UnlentFor s (length k) (length c) (length a) (length commands) fit reason
    → refusal_for reason ≡ refusal_in (dispatch_on (decoded (all_lists s k c a i)) commands lent_list)
unfolding number_lists
unlent_answered s k c a i commands lent_list fit reason e image said =
    let b = all_lists s k c a i in
    let t = are_whole (length k) (length c) (length a) && all_fit (number_lists b) commands in
    let same : (are_whole (length k) (length c) (length a) && (handed_back_fit (number_lists b) commands && fit)) ≡ t =
    ap (λ (u : Bool). are_whole (length k) (length c) (length a) && u) (same_fit (handed_back_fit (number_lists b) commands) fit _ image) in
    unlent_as s k c a i commands fit reason said ∙ ap (λ (u : Bool). plain (cond u 12 6)) same ∙ rw (unlent_dispatched b commands lent_list e) (either_refusal t)

-- ---- rooms

-- what a refused call on numbers r leaves of the bytes
pub refused_left : {x : Refusal} (o : DispatchOutcome) (b r : Lists) {s K C A i : List ℕ} → 0 < x.number → x ≡ refusal_in o → all_lists s K C A i ≡ lists_left o r → r.state ≡ b.state → r.image ≡ b.image
    → all_lists s b.keys b.chutes b.answers i ≡ made_left o b
unfolding refusal_in lists_left made_left
refused_left {x} (made d) b r some is after state image = absurd (omega (arith, some, ap (λ (y : Refusal). y.number) is))
refused_left {x} (refused y) b r {s} {K} {C} {A} {i} some is after state image =
    let same_state : s ≡ b.state = ap (λ (l : Lists). l.state) after ∙ state in
    let same_image : i ≡ b.image = ap (λ (l : Lists). l.image) after ∙ image in
    rw (same_state, same_image)

-- and of one that is made
pub made_written : (o : DispatchOutcome) (b r : Lists) (d : Made) {s K C A i x y z : List ℕ} → o ≡ made d → all_lists s K C A i ≡ lists_left o r
    → (x ≡ bytes_in 8 K) × (y ≡ bytes_in 2 C) × (z ≡ bytes_in 2 A) → all_lists s x y z i ≡ made_left o b
unfolding encoded lists_left made_left
made_written o b r d is after wrote = rw (wrote.0, wrote.1, wrote.2, is) (ap encoded (rw is at after))
