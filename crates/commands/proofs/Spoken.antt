-- A turn with a call is known from what its call promises and from what is said of the answer; one without, from its struct. Assumes nothing.
use mathlib.Core.Path.{◌≡◌, ap}
use mathlib.Core.List.{List}
use Prim.Native.Nat.{ℕ}
use Rattle.rules.specs.Values.{Values, Outcome}
use Rattle.wire.specs.declared.Saying.{Saying}
use Rattle.commands.specs.declared.Phase.{Phase}
use Rattle.history.specs.Calls.{ask, hop}
use Rattle.history.specs.Histories.{outcome}
use Rattle.commands.specs.declared.Turn.{Turn}
use Rattle.commands.specs.Turns.{Run, table_of, turned, turn, walk_by, walk_turn}

pub turn_by : (body : List ℕ) (p : Phase) (say : Values → Saying) (x : Saying) (o o' : Outcome) → x ≡ say o.answer → o ≡ o' →
    record {
      run = record { links = o.links; rows = o.rows; stream = record { header = o.header; phase = p; body = body } };
      saying = x;
      row = o.row;
    } ≡ turn body p say o'
turn_by body p say x o o' e f = rw e (ap (turn body p say) f)

-- what one step of a walk does, from the outcome of its call
pub walk_by_lem : (s : Run) (c : ℕ) (o : Outcome) → o ≡ outcome (table_of s) (ask (hop c)) → walk_by s o o.answer.kind ≡ walk_turn s c
walk_by_lem s c o e = ap (λ (x : Outcome). walk_by s x x.answer.kind) e

-- the struct is known, and beside the tables so is the turn
pub turned_by : {x y : Turn} {l r : List ℕ} → x ≡ y → turned x l r ≡ turned y l r
turned_by {l = l} {r = r} e = ap (λ (z : Turn). turned z l r) e
