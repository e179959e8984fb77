-- `merge::keys::put_row` meets its contract: four parts, one behind the other.
use mathlib.Core.Path.{◌≡◌, ap}
use mathlib.Core.List.{List, [], ◌∷◌, ◌++◌}
use Prim.Native.Nat.{ℕ, ◌+◌, ◌≤◌}
use native.Mathlib.Omega.{arith}
use lib.ListN.{length, length-append}
use Rattle.text.specs.Lines.{tab, newline}
use Rattle.text.specs.Room.{put_at}
use Rattle.text.proofs.Behind.{length-put_at, put_at-behind}
use Rattle.merge.specs.Held.{row_with}
use Rattle.merge.proofs.keys.put_row.Goals as goal

-- from the place `at` of the room l on p is put, and the next part begins at `next`
record Put (p l : List ℕ) (at : ℕ) (r : List ℕ) (next : ℕ) : Type 0 where
  bytes_are : r ≡ put_at p at l
  place : next ≡ at + length p

put-again : (x : List ℕ) {p l r r' : List ℕ} {at next next' : ℕ} → Put p l at r next → at ≤ length l → r' ≡ put_at x next r → next' ≡ next + length x → Put (p ++ x) l at r' next'
put-again x {p} {l} {r} {r'} {at} {next} f h e n =
    record { bytes_are = put_at-behind p x l r r' at next h f.place f.bytes_are e; place = omega (arith, length-append p x, f.place) }

put-room : (x : List ℕ) {p l r : List ℕ} {at next : ℕ} → Put p l at r next → at + length (p ++ x) ≤ length l → next + length x ≤ length r
put-room x {p} {l} {r} {at} f h = omega (arith, f.place, ap length f.bytes_are, length-put_at p l at (omega (arith, length-append p x)), length-append p x)

-- the row: its path, its first key, its other key, a newline
module _ (path key other room : List ℕ) (at : ℕ) (fits : at + length (row_with path key other) ≤ length room) where
  within : at ≤ length room
  within = omega (arith, fits)

  path_fits : at + length path ≤ length room
  path_fits =
      omega (arith, fits, length-append path (tab ∷ key), length-append (path ++ tab ∷ key) (tab ∷ other), length-append (path ++ tab ∷ key ++ tab ∷ other) (newline ∷ []))

  module _ {room₁ : List ℕ} {n : ℕ} (path_put : room₁ ≡ put_at path at room) (n_is : n ≡ at + length path) where
    first : Put path room at room₁ n
    first = record { bytes_are = path_put; place = n_is }

    key_fits : n + length (tab ∷ key) ≤ length room₁
    key_fits = put-room (tab ∷ key) first (omega (arith, fits, length-append (path ++ tab ∷ key) (tab ∷ other), length-append (path ++ tab ∷ key ++ tab ∷ other) (newline ∷ [])))

    module _ {room₂ : List ℕ} {m : ℕ} (key_put : room₂ ≡ put_at (tab ∷ key) n room₁) (m_is : m ≡ n + length (tab ∷ key)) where
      second : Put (path ++ tab ∷ key) room at room₂ m
      second = put-again (tab ∷ key) first within key_put m_is

      other_fits : m + length (tab ∷ other) ≤ length room₂
      other_fits = put-room (tab ∷ other) second (omega (arith, fits, length-append (path ++ tab ∷ key ++ tab ∷ other) (newline ∷ [])))

      module _ {room₃ : List ℕ} {k : ℕ} (other_put : room₃ ≡ put_at (tab ∷ other) m room₂) (k_is : k ≡ m + length (tab ∷ other)) where
        third : Put (path ++ tab ∷ key ++ tab ∷ other) room at room₃ k
        third = put-again (tab ∷ other) second within other_put k_is

        newline_fits : k + length (newline ∷ []) ≤ length room₃
        newline_fits = put-room (newline ∷ []) third fits

        whole : {room₄ : List ℕ} {j : ℕ} → room₄ ≡ put_at (newline ∷ []) k room₃ → j ≡ k + length (newline ∷ []) → Put (row_with path key other) room at room₄ j
        whole put is = put-again (newline ∷ []) third within put is

pub put_part-next-requires : goal.put_part-next-requires
put_part-next-requires c = path_fits c.args.path.now c.args.key.now c.args.other_key.now c.args.report.now c.args.at c.requires

pub put_field-next-requires : goal.put_field-next-requires
put_field-next-requires c =
    let path = c.put_part-next.ensures in
    key_fits c.args.path.now c.args.key.now c.args.other_key.now c.args.report.now c.args.at c.requires path.room_after path.value

pub put_field-next-requires-2 : goal.put_field-next-requires-2
put_field-next-requires-2 c =
    let path = c.put_part-next.ensures in
    let key = c.put_field-next.ensures in
    other_fits c.args.path.now c.args.key.now c.args.other_key.now c.args.report.now c.args.at c.requires path.room_after path.value key.room_after key.value

pub put_part-requires : goal.put_part-requires
put_part-requires c =
    let path = c.put_part-next.ensures in
    let key = c.put_field-next.ensures in
    let other = c.put_field-next-2.ensures in
    newline_fits c.args.path.now c.args.key.now c.args.other_key.now c.args.report.now c.args.at c.requires path.room_after path.value key.room_after key.value other.room_after other.value

pub returns : goal.returns
returns c =
    let path = c.put_part-next.ensures in
    let key = c.put_field-next.ensures in
    let other = c.put_field-next-2.ensures in
    let all = whole c.args.path.now c.args.key.now c.args.other_key.now c.args.report.now c.args.at c.requires path.room_after path.value key.room_after key.value other.room_after other.value
    c.put_part.ensures.room_after c.put_part.ensures.value in
    record { value = all.place; report_after = all.bytes_are }
