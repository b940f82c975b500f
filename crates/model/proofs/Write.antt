-- A worker's writing is the serial run's service: on ascending entries laid out as a store, what a lookup finds and what is then answered and
-- written is what `serve` answers and leaves. Assumes nothing.
use Rattle.std.specs.Prelude.{ℕ, ◌≤◌, ◌≡◌, Bool, cond, List, length, eqb, leb}
use Rattle.std.proofs.Common.{arith, ap, eq-eqb, ne_eqb, leb-false}
use Rattle.std.proofs.Math.Path.{refl}
use Rattle.std.proofs.Math.Bool.{true, false}
use Rattle.command.specs.declared.Kind.{Kind}
use Rattle.command.specs.declared.Kind.TheVariants.{Insert, Delete, Read, Update, Workers, Checkpoint}
use Rattle.model.specs.Serial.{Entry, Served, present, chute_at, serve_kind}
use Rattle.model.specs.Store.{lay_out, look_up}
use Rattle.model.specs.Service.{Write, write, write_kind}
use Rattle.model.proofs.Serial.{AllPositive, chute_at_absent, chute_at_present}
use Rattle.model.specs.Serial.{Ascending}
use Rattle.model.proofs.Store.{look_up_is_chute_at, insert_is_put_in, remove_is_take_out, replace_is_set_chute}
use Rattle.command.specs.Dependent.{has_item}

module _ (capacity key chute : ℕ) (es : List Entry) (ascending : Ascending es) (positive : AllPositive es) (fits : length es ≤ capacity) where
  -- a served command as a write: the same answer, and the entries laid out
  abbrev as_write : Served → Write
  as_write r = write r.answer (lay_out capacity r.entries)

  abbrev Same : Kind → Type 0
  Same kind = write_kind kind capacity key chute (chute_at key es) (lay_out capacity es) ≡ as_write (serve_kind kind capacity key chute es)

  found : present key es ≡ true → eqb (chute_at key es) 0 ≡ false
  found p = ne_eqb (chute_at key es) 0 (λ e. let h = chute_at_present key es positive p in omega arith)

  missing : present key es ≡ false → eqb (chute_at key es) 0 ≡ true
  missing p = eq-eqb (chute_at key es) 0 (chute_at_absent key es p)

  same_present : (kind : Kind) → present key es ≡ true → Same kind
  unfolding write_kind serve_kind
  same_present Insert p = rw (found p, p) (ap (write 1004) (replace_is_set_chute capacity key es ascending fits chute p))
  same_present Delete p = rw (found p, p) (ap (write 1000) (remove_is_take_out capacity key es ascending fits p))
  same_present Read p = rw (found p, p)
  same_present Update p = rw (found p, p) (ap (write 1000) (replace_is_set_chute capacity key es ascending fits chute p))
  same_present Workers p = refl
  same_present Checkpoint p = refl

  -- an insert of an absent key, by whether the store is full
  same_insert : present key es ≡ false → (b : Bool) → leb capacity (length es) ≡ b → Same Insert
  unfolding write_kind serve_kind lay_out
  same_insert p true f = rw (missing p, p, f)
  same_insert p false f = rw (missing p, p, f) (ap (write 1000) (insert_is_put_in capacity key es ascending fits chute p (leb-false capacity (length es) f)))

  same_absent : (kind : Kind) → present key es ≡ false → Same kind
  unfolding write_kind serve_kind
  same_absent Insert p = same_insert p (leb capacity (length es)) refl
  same_absent Delete p = rw (missing p, p)
  same_absent Read p = rw (missing p, p)
  same_absent Update p = rw (missing p, p)
  same_absent Workers p = refl
  same_absent Checkpoint p = refl

  looked_up_lem : (kind : Kind) → write_kind kind capacity key chute (look_up key (lay_out capacity es)) (lay_out capacity es) ≡ as_write (serve_kind kind capacity key chute es)
  looked_up_lem kind = rw (look_up_is_chute_at capacity key es ascending fits) (go (present key es) refl)
    where
      go : (b : Bool) → present key es ≡ b → Same kind
      go true p = same_present kind p
      go false p = same_absent kind p

  -- a command that is for no item looks nothing up, and writes whatever was found
  pub written_as_served : (kind : Kind) → write_kind kind capacity key chute (cond (has_item kind) (look_up key (lay_out capacity es)) 0) (lay_out capacity es) ≡ as_write (serve_kind kind capacity key chute es)
  unfolding has_item write_kind serve_kind
  written_as_served Insert = looked_up_lem Insert
  written_as_served Delete = looked_up_lem Delete
  written_as_served Read = looked_up_lem Read
  written_as_served Update = looked_up_lem Update
  written_as_served Workers = refl
  written_as_served Checkpoint = refl
