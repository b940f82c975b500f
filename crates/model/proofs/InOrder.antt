-- Whatever a lookup found, a writing leaves the store in order: entries that ascend and fit, laid out. A lookup that some schedule leads to is
-- right; one that a handed-back state names may be wrong. Assumes nothing.
use Rattle.std.specs.Prelude.{ℕ, ◌≤◌, ◌<◌, ◌≡◌, refl, Bool, true, false, List, length, eqb, leb}
use Rattle.std.proofs.Common.{arith, leb-false}
use Rattle.command.specs.declared.Kind.{Kind}
use Rattle.command.specs.declared.Kind.TheVariants.{Insert, Delete, Read, Update, Workers, Checkpoint}
use Rattle.model.specs.Serial.{Entry, present, put_in, take_out, set_chute}
use Rattle.model.specs.Store.{Store, lay_out, insert, remove, replace}
use Rattle.model.specs.Service.{Write, write_kind}
use Rattle.command.proofs.Tests.{cond_cases}
use Rattle.model.proofs.Serial.{ascending_put_in, ascending_take_out, ascending_set_chute, length_put_in, length_take_out, length_set_chute}
use Rattle.model.specs.Serial.{Ascending}
use Rattle.model.proofs.Store.{insert_is_put_in, insert_is_replace, remove_is_take_out, replace_is_set_chute, remove_absent, replace_absent}

pub record InOrder (capacity : ℕ) (st : Store) : Type 0 where
  pub entries : List Entry
  pub laid : st ≡ lay_out capacity entries
  pub ascending : Ascending entries
  pub fits : length entries ≤ capacity

module _ (capacity key : ℕ) (es : List Entry) (ascending : Ascending es) (fits : length es ≤ capacity) where
  abbrev st : Store
  st = lay_out capacity es

  kept : InOrder capacity st
  kept = record { entries = es; laid = refl; ascending = ascending; fits = fits }

  -- Each operation, by whether the key is present.
  replaced : (chute : ℕ) (b : Bool) → present key es ≡ b → InOrder capacity (replace key chute st)
  replaced chute true p = record {
    entries = set_chute key chute es;
    laid = replace_is_set_chute capacity key es ascending fits chute p;
    ascending = ascending_set_chute key chute es ascending;
    fits = omega (arith, length_set_chute key chute es);
  }
  replaced chute false p = rw (replace_absent capacity key es ascending fits chute p) kept

  removed : (b : Bool) → present key es ≡ b → InOrder capacity (remove key st)
  removed true p = record {
    entries = take_out key es;
    laid = remove_is_take_out capacity key es ascending fits p;
    ascending = ascending_take_out key es ascending;
    fits = omega (arith, length_take_out key es p);
  }
  removed false p = rw (remove_absent capacity key es ascending fits p) kept

  inserted : (chute : ℕ) → length es < capacity → (b : Bool) → present key es ≡ b → InOrder capacity (insert key chute st)
  inserted chute more true p = rw (insert_is_replace capacity key es ascending fits chute p) (replaced chute true p)
  inserted chute more false p = record {
    entries = put_in (record { key = key; chute = chute }) es;
    laid = insert_is_put_in capacity key es ascending fits chute p more;
    ascending = ascending_put_in (record { key = key; chute = chute }) es ascending p;
    fits = omega (arith, length_put_in (record { key = key; chute = chute }) es);
  }

  abbrev After : Write → Type 0
  After w = InOrder capacity w.store

  pub written_in_order : (kind : Kind) (chute found : ℕ) → InOrder capacity (write_kind kind capacity key chute found st).store
  unfolding write_kind lay_out
  written_in_order Insert chute found =
      cond_cases After (eqb found 0)
      (λ _. cond_cases After (leb capacity (length es)) (λ _. kept) (λ l. inserted chute (leb-false _ _ l) (present key es) refl))
      (λ _. replaced chute (present key es) refl)
  written_in_order Delete chute found = cond_cases After (eqb found 0) (λ _. kept) (λ _. removed (present key es) refl)
  written_in_order Read chute found = cond_cases After (eqb found 0) (λ _. kept) (λ _. kept)
  written_in_order Update chute found = cond_cases After (eqb found 0) (λ _. kept) (λ _. replaced chute (present key es) refl)
  written_in_order Workers chute found = kept
  written_in_order Checkpoint chute found = kept
