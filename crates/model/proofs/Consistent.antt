-- The service and the serial run: which commands are written, and that store, answers and lookups are what those commands give. What is
-- looked up goes by names (`looked`), each of which has a command's place; what the names are, and how a thread comes to look up and to
-- write, is left to the chain that uses this. Assumes nothing.
use Rattle.std.specs.Prelude.{ℕ, ◌≡◌, refl, Bool, true, false}
use Rattle.std.proofs.Math.Path.{sym, ap}
use Rattle.std.proofs.Common.{◌∙◌, ⊎_elim}
use Rattle.std.proofs.Math.Bool.{cond}
use mathlib.Core.List.{List}
use Rattle.std.proofs.Math.Option.{Option, none, some}
use Rattle.command.specs.declared.Command.{Command}
use Rattle.command.specs.Dependent.{are_dependent, has_item, is_checkpoint}
use Rattle.command.specs.Count.{count_after}
use Rattle.model.specs.Upd.{upd}
use Rattle.model.specs.Setup.{Setup, command_at}
use Rattle.model.specs.Serial.{Entry, serve, chute_at}
use Rattle.model.specs.Store.{lay_out, look_up}
use Rattle.model.specs.Image.{image_of}
use Rattle.model.specs.Service.{Service, opened_service, found_for, write, write_kind, image_after, write_for}
use Rattle.model.specs.Statement.{Accepted, EachCommand, serial_answer}
use Rattle.model.specs.Count.{count_of}
use Rattle.model.specs.Moment.{last_checkpoint, image_at}
use Rattle.command.proofs.Tests.{true_false, none_some, cond_cases}
use Rattle.model.proofs.Upd.{upd_at, upd_other, upd_cases}
use Rattle.model.proofs.Commute.{look_keeps}
use Rattle.model.proofs.Store.{look_up_is_chute_at}
use Rattle.model.proofs.Write.{written_as_served}
use Rattle.model.proofs.Service.{ClosedDown, EarlierIn, entries_of, entries_none, served_next, closed_next, entries_ascending, entries_fit, entries_positive, count_none, count_next}
use Rattle.model.proofs.Imaged.{image_none, image_written, last_kept}

-- a written command has every earlier command that it depends on written; each answer is the serial run's; the store is what the written
-- commands give when run alone in delivery order, and so is the worker count in force; the image is that of the last checkpoint written; what thread t found for the name z is what a lookup for its command would find now,
-- though its entry may stand elsewhere in the store than it did
pub record Consistent (o : Setup) (place : ℕ → ℕ) (written : ℕ → Bool) (v : Service) (looked : ℕ → Option ℕ) (found : ℕ → ℕ) : Type 0 where
  pub closed : ClosedDown o written
  pub answered : EachCommand o (λ c. v.answers c ≡ cond (written c) (serial_answer o c) 0)
  pub stored : v.store ≡ lay_out o.capacity (entries_of o written)
  pub limited : v.limit ≡ count_of o written
  pub imaged : v.image ≡ image_at o (last_checkpoint o written)
  pub look : (t z : ℕ) → looked t ≡ some z → found t ≡ found_for (command_at o.commands (place z)) v.store

-- at the opening nothing is written and nothing looked up
pub opened_consistent : (o : Setup) (place : ℕ → ℕ) → Consistent o place (λ c. false) (opened_service o) (λ t. none) (λ t. 0)
unfolding opened_service
opened_consistent o place = record {
  closed = λ j k a b p q l d e. absurd (true_false true refl (sym e));
  answered = λ c l h. refl;
  stored = ap (lay_out o.capacity) (sym (entries_none o));
  limited = sym (count_none o);
  imaged = sym (image_none o);
  look = λ t z e. absurd (none_some none refl e);
}

module _ {o : Setup} {place : ℕ → ℕ} {written : ℕ → Bool} {v : Service} {looked : ℕ → Option ℕ} {found : ℕ → ℕ} (i : Consistent o place written v looked found) where
  -- other lookups, and names with other places, are right as long as each lookup found what it would find now
  pub lookups_consistent : (place' : ℕ → ℕ) (looked' : ℕ → Option ℕ) (found' : ℕ → ℕ)
      → ((t z : ℕ) → looked' t ≡ some z → found' t ≡ found_for (command_at o.commands (place' z)) v.store) → Consistent o place' written v looked' found'
  lookups_consistent place' looked' found' look = record { closed = i.closed; answered = i.answered; stored = i.stored; limited = i.limited; imaged = i.imaged; look = look }

  -- ---- a command is written that has no answer yet, while every earlier command that it depends on has one

  module _ (acc : Accepted o) (c : ℕ) (cmd : Command) (command : command_at o.commands c ≡ some cmd) (not_written : written c ≡ false)
      (earlier : EarlierIn o written c cmd) where
    abbrev es : List Entry
    es = entries_of o written

    abbrev written' : ℕ → Bool
    written' = upd written c true

    -- the service after it
    abbrev pub service_after : Service
    service_after = record { store = lay_out o.capacity (entries_of o written'); answers = upd v.answers c (serial_answer o c); limit = count_after cmd v.limit; image = image_at o (last_checkpoint o written') }

    -- what its lookup found is what it would find now, so the write is the serial service on the written commands' entries
    served : (f : ℕ) → f ≡ found_for (some cmd) v.store
        → write_kind cmd.kind o.capacity cmd.key cmd.chute f v.store ≡ write (serial_answer o c) (lay_out o.capacity (entries_of o written'))
    unfolding serve found_for
    served f e =
        let k = served_next o written c cmd i.closed command not_written earlier in
        rw (e, i.stored)
        (written_as_served o.capacity cmd.key cmd.chute es (entries_ascending o acc written) (entries_positive o acc written) (entries_fit o acc written) cmd.kind
        ∙ (ap (λ (a : ℕ). write a (lay_out o.capacity (serve o.capacity cmd es).entries)) k.0 ∙ ap (λ (l : List Entry). write (serial_answer o c) (lay_out o.capacity l)) k.1))

    -- a checkpoint writes its own image, and another command none
    image_next : image_after cmd.kind o.capacity c v.store v.image ≡ image_at o (last_checkpoint o written')
    unfolding image_after
    image_next =
        cond_cases (λ (l : List ℕ). l ≡ image_at o (last_checkpoint o written')) (is_checkpoint cmd.kind)
        (λ is. ap (image_of o.capacity c) i.stored ∙ image_written o written c cmd i.closed command not_written earlier is)
        (λ other. i.imaged ∙ ap (image_at o) (sym (last_kept o written c cmd i.closed command not_written other)))

    pub written_service : (f : ℕ) → f ≡ found_for (some cmd) v.store → write_for o (some cmd) c f v ≡ service_after
    unfolding write_for
    written_service f e = rw (served f e, image_next)

    -- a lookup for an independent command finds after the write what it found before
    pub found_kept : (b : Command) → are_dependent b cmd ≡ false → found_for (some b) v.store ≡ found_for (some b) service_after.store
    unfolding found_for
    found_kept b free =
        let k = served_next o written c cmd i.closed command not_written earlier in
        ap (λ (n : ℕ). cond (has_item b.kind) n 0)
        (ap (look_up b.key) i.stored
        ∙ (look_up_is_chute_at o.capacity b.key es (entries_ascending o acc written) (entries_fit o acc written)
        ∙ (sym (look_keeps o.capacity b cmd es free) ∙ (ap (chute_at b.key) k.1
        ∙ sym (look_up_is_chute_at o.capacity b.key (entries_of o written') (entries_ascending o acc written') (entries_fit o acc written'))))))

    -- the lookups that go on are for commands that are independent of it
    pub written_consistent : (looked' : ℕ → Option ℕ) (found' : ℕ → ℕ)
        → ((t z : ℕ) → looked' t ≡ some z → (looked t ≡ some z) × (found' t ≡ found t) × (b : Command) × (command_at o.commands (place z) ≡ some b) × (are_dependent b cmd ≡ false))
        → Consistent o place written' service_after looked' found'
    written_consistent looked' found' others = record {
      closed = closed_next o written c cmd i.closed command earlier;
      answered = λ k a b. ⊎_elim (λ h. h.1 ∙ rw (upd_at written c true k h.0) (ap (serial_answer o) (sym h.0))) (λ h. h.1 ∙ rw (upd_other written c true k h.0) (i.answered k a b)) (upd_cases v.answers c (serial_answer o c) k);
      stored = refl;
      limited = ap (count_after cmd) i.limited ∙ count_next o written c cmd i.closed command not_written;
      imaged = refl;
      look = look;
    }
      where
        look : (t z : ℕ) → looked' t ≡ some z → found' t ≡ found_for (command_at o.commands (place z)) service_after.store
        look t z e =
            let w = others t z e in
            w.1 ∙ (i.look t z w.0 ∙ (ap (λ (m : Option Command). found_for m v.store) w.3
            ∙ (found_kept w.2 w.4 ∙ sym (ap (λ (m : Option Command). found_for m service_after.store) w.3))))
