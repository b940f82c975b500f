-- What the dispatcher's calls answer and leave, document 02, A.6. Assumes nothing.
use Rattle.std.specs.Prelude.{ℕ, cond, ◌&&◌, ◌≡◌, List, ◌++◌, length, drop, leb, Result, Ok, Err}
use Rattle.s10.specs.Refusal.{Refusal, plain}
use Rattle.command.specs.Read.{commands_in}
use Rattle.model.specs.Setup.{Setup}
use Rattle.model.specs.Step.{State, steps}
use Rattle.model.specs.Dispatch.{steps_needed, dispatched}
use Rattle.state_bytes.specs.Layout.{Lists, lists_of, setup_in, state_in, state_fits, handed_back_fit, image_fits}
use Rattle.state_bytes.specs.Layout as Layout
use Rattle.state_bytes.specs.declared.Reason.{Reason}
use Rattle.state_bytes.specs.Outcome as State

-- the document's values for each answer of the two calls, and the number that it reports, 0 where it is refused
abbrev pub call_refusal : Result ℕ Reason → Refusal
call_refusal (Ok n) = plain 0
call_refusal (Err reason) = State.refusal_for reason

abbrev pub call_count : Result ℕ Reason → ℕ
call_count (Ok n) = n
call_count (Err reason) = 0

-- ---- how long the lent list must be

-- "(n + w) × (3 × s + 6)", of the state that lists hold
unfoldable pub needed_now : Lists → List ℕ → ℕ
needed_now l commands = steps_needed (setup_in l.state commands) (state_in l)

-- what the state bytes tell of it, whatever the other lists hold
abbrev pub NeededIn : List ℕ → ℕ → Type 0
NeededIn b n = (l : Lists) (commands : List ℕ) → l.state ≡ b → length (commands_in commands) ≡ Layout.count_in b → n ≡ needed_now l commands

-- the call that tells it: 6, then 12, as the reports; 0 for no refusal
unfoldable pub needed_on : Lists → List ℕ → ℕ
needed_on l commands = cond (handed_back_fit l commands) (cond (state_fits l) 0 12) 6

-- and the number, 0 where it is refused
unfoldable pub count_needed : Lists → List ℕ → ℕ
count_needed l commands = cond (handed_back_fit l commands && state_fits l) (needed_now l commands) 0

-- ---- dispatching

-- what a call comes to: the lists and the lent list that it leaves, and the number that it reports; or a refusal
pub record Made : Type 0 where
  pub lists : Lists
  pub schedule : List ℕ
  pub count : ℕ

pub data DispatchOutcome : Type 0 where
  made : Made → DispatchOutcome
  refused : Refusal → DispatchOutcome

-- "The count it reports is the length of the dealing written"; "bytes past the dealing stay untouched"
unfoldable pub made_from : Setup → State → List ℕ → Made
made_from o s lent = record {
  lists = lists_of o (steps o (dispatched o s) s);
  schedule = dispatched o s ++ drop (length (dispatched o s)) lent;
  count = length (dispatched o s);
}

-- 6, then 12, as every call on a handed-back state; "A lent list shorter than the bound is refused 6, here tested after 12"
unfoldable pub dispatch_on : Lists → List ℕ → List ℕ → DispatchOutcome
dispatch_on l commands lent =
    let o : Setup = setup_in l.state commands in
    cond (handed_back_fit l commands && image_fits o.capacity l) (cond (state_fits l) (cond (leb (needed_now l commands) (length lent))
    (made (made_from o (state_in l) lent)) (refused (plain 6))) (refused (plain 12))) (refused (plain 6))

-- the parts of it: "A refusal returns its number [..] and writes nothing"
unfoldable pub refusal_in : DispatchOutcome → Refusal
refusal_in (made d) = plain 0
refusal_in (refused r) = r

unfoldable pub count_in : DispatchOutcome → ℕ
count_in (made d) = d.count
count_in (refused r) = 0

unfoldable pub lists_left : DispatchOutcome → Lists → Lists
lists_left (made d) old = d.lists
lists_left (refused r) old = old

unfoldable pub lent_left : DispatchOutcome → List ℕ → List ℕ
lent_left (made d) old = d.schedule
lent_left (refused r) old = old
