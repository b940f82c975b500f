-- What a checkpoint finds: it depends on every command, so at its writing every earlier command is written and no later one, and the store holds
-- what the commands delivered before it leave. Assumes nothing.
use Prim.Native.Nat.{ℕ, suc, ◌+◌, ◌-◌, ◌≤◌, ◌<◌}
use native.Mathlib.Omega.{arith}
use Rattle.std.specs.Prelude.{◌≡◌, refl, Bool, false, ◌&&◌, length, take}
use Rattle.std.proofs.Math.Path.{sym, ap}
use Rattle.std.proofs.Common.{◌∙◌}
use Rattle.std.proofs.Math.Bool.{true, and-false}
use Rattle.std.proofs.Math.Option.{some}
use Rattle.std.proofs.Math.Logic.{⊎_elim}
use Rattle.std.proofs.Math.Dec.{ltb}
use borrow.Author.Tests.{lt-ltb, le-ltb, ne_eqb}
use Rattle.command.specs.declared.Command.{Command}
use Rattle.command.specs.Dependent.{is_checkpoint}
use Rattle.command.proofs.Laws.{checkpoint_depends}
use Rattle.model.specs.Upd.{upd}
use Rattle.model.specs.Setup.{Setup, command_at}
use Rattle.model.specs.Serial.{entries_after}
use Rattle.model.specs.Store.{lay_out}
use Rattle.model.specs.Image.{empty_image, image_of}
use Rattle.model.specs.Statement.{EachCommand}
use Rattle.model.specs.Moment.{last_checkpoint, entries_before, image_at}
use Rattle.command.proofs.Tests.{fails, true_false, le_cases, eqb_cases}
use Rattle.model.proofs.Upd.{upd_same, upd_other}
use Rattle.model.proofs.Trace.{run_only, run_only_before}
use Rattle.model.proofs.Places.{some_command, command_place, command_within}
use Rattle.model.proofs.Commute.{effect_of}
use Rattle.model.proofs.Service.{ClosedDown, EarlierIn, entries_of, entries_agree, entries_after_lem, placed}
use Rattle.model.proofs.Last.{last_agrees, last_none, last_is}

-- where no command is written, the image is zeros
pub image_none : (o : Setup) → image_at o (last_checkpoint o (λ c. false)) ≡ empty_image o.capacity
unfolding last_checkpoint image_at
image_none o = rw (last_none (λ c. false) 1 o.commands 0 (λ n h. refl))

module _ (o : Setup) (W : ℕ → Bool) (k : ℕ) (c : Command) (closed : ClosedDown o W) (at : command_at o.commands k ≡ some c) (out : W k ≡ false) where
  -- a command that is no checkpoint leaves the last one
  pub last_kept : is_checkpoint c.kind ≡ false → last_checkpoint o (upd W k true) ≡ last_checkpoint o W
  unfolding last_checkpoint command_at
  last_kept other = last_agrees (upd W k true) W 1 o.commands 0 (λ n b e. ⊎_elim (λ p. same n b e p.0) (λ p. rw (upd_other W k true (1 + n) p.0)) (eqb_cases (1 + n) k))
    where
      same : (n : ℕ) (b : Command) → command_at o.commands (suc n) ≡ some b → 1 + n ≡ k → upd W k true (1 + n) && is_checkpoint b.kind ≡ W (1 + n) && is_checkpoint b.kind
      same n b e q =
          let r : suc n ≡ k = omega arith in
          let d : b ≡ c = cc in
          rw (d, other, and-false (upd W k true (1 + n)), and-false (W (1 + n)))

  module _ (earlier : EarlierIn o W k c) (is : is_checkpoint c.kind ≡ true) where
    -- no later command is written
    later_out : (j : ℕ) → k < j → j ≤ length o.commands → W j ≡ false
    later_out j l h =
        let b = some_command o.commands j (omega arith) h in
        fails (W j) (λ w. true_false (W k) (closed k j c b.0 at b.1 l (checkpoint_depends c b.0 is).0 w) out)

    -- and every earlier one is
    earlier_in : (j : ℕ) → 1 ≤ j → j < k → k ≤ length o.commands → W j ≡ true
    earlier_in j low l h =
        let b = some_command o.commands j low (omega arith) in
        earlier j b.0 b.1 l (checkpoint_depends c b.0 is).1

    those_before : k ≤ length o.commands → EachCommand o (λ j. W j ≡ ltb j k)
    those_before high j low h =
        ⊎_elim (λ l. ⊎_elim (λ p. ap W p.0 ∙ (out ∙ sym (le-ltb j k (omega (arith, p.0))))) (λ p. later_out j (omega (arith, p.0)) h ∙ sym (le-ltb j k l)) (eqb_cases j k))
        (λ l. earlier_in j low l high ∙ sym (lt-ltb j k l)) (le_cases k j)

    -- so the store holds what those before it leave
    pub entries_found : entries_of o W ≡ entries_before o k
    unfolding entries_of entries_before
    entries_found =
        let p = placed o.commands k c at in
        let here : k ≡ 1 + p.offset = p.place in
        let before : k - 1 ≡ p.offset = omega arith in
        entries_agree o W (λ j. ltb j k) (those_before (command_within o.commands k c at))
        ∙ (ap (λ (n : ℕ). run_only (effect_of o.capacity) (λ j. ltb j n) 1 o.commands o.entries) here
        ∙ (run_only_before (effect_of o.capacity) p.offset 1 o.commands o.entries
        ∙ (entries_after_lem o.capacity (take p.offset o.commands) o.entries ∙ ap (λ (n : ℕ). entries_after o.capacity (take n o.commands) o.entries) (sym before))))

    -- and the checkpoint is the last one
    pub last_next : last_checkpoint o (upd W k true) ≡ k
    unfolding last_checkpoint
    last_next =
        let p = placed o.commands k c at in
        let here : 1 + p.offset ≡ k = sym p.place in
        last_is (upd W k true) 1 o.commands 0 p.offset c p.found is (rw here (upd_same W k true))
        (λ m l h. upd_other W k true (1 + m) (λ (e : 1 + m ≡ k). omega arith) ∙ later_out (1 + m) (omega arith) (omega arith))
        ∙ here

    -- so it writes the image that stands there
    pub image_written : image_of o.capacity k (lay_out o.capacity (entries_of o W)) ≡ image_at o (last_checkpoint o (upd W k true))
    unfolding image_at
    image_written = rw (last_next, entries_found, ne_eqb k 0 (λ (e : k ≡ 0). omega (arith, command_place o.commands k c at)))
