-- The masks of a row from those of the rows that it names, and what their maker asks. Assumes nothing.
use mathlib.Core.{Path.◌≡◌, List.List}
use Rattle.std.specs.Prelude.{ℕ, ◌<◌, ◌≤◌, length}
use Rattle.model.specs.declared.{Fields.Fields, Image.Image}
use Rattle.model.specs.Masks.{bit, join, without}
use Rattle.model.specs.Image.{row_count}
use Rattle.model.specs.Rows.{expression, pattern, offer, gets, of_type, item, range, action, branch, arm, unknown, is_variable, is_constant, is_unary, is_binary, is_any, is_bind, is_value, is_where, is_emit, is_receive, is_null, is_assign, is_choose, is_reset, is_communicate, is_to, is_then, is_select, is_case, is_while, is_for, Means, an_expression, a_pattern, an_offer, an_action, another}
use Rattle.image.specs.Located.{Rooted}
use Rattle.masks.specs.declared.Masks.{Masks}
use Rattle.masks.specs.Masks.{masks}

-- the masks of two rows, joined
abbrev pub joined : Masks → Masks → Masks
joined m n = masks (join m.uses n.uses) (join m.defs n.defs) (join m.leads n.leads)

-- the masks of a row with the fields w; m gives the masks of lower rows
unfoldable pub masks_by : (ℕ → Masks) → Fields → Means → Masks
masks_by m w (an_expression is_variable) = masks (bit w.a) 0 0
masks_by m w (an_expression is_constant) = masks 0 0 0
masks_by m w (an_expression (is_unary o)) = masks (m w.a).uses 0 0
masks_by m w (an_expression (is_binary o)) = masks (join (m w.a).uses (m w.b).uses) 0 0
masks_by m w (a_pattern is_any) = masks 0 0 0
masks_by m w (a_pattern is_bind) = masks 0 (bit w.a) 0
masks_by m w (a_pattern is_value) = masks 0 0 0
masks_by m w (a_pattern is_where) = masks (join (without (m w.b).uses (m w.a).defs) (m w.a).uses) (m w.a).defs 0
masks_by m w (an_offer is_emit) = masks (join (m w.a).uses (m w.b).uses) (m w.b).defs 0
masks_by m w (an_offer is_receive) = masks (join (m w.a).uses (m w.b).uses) (join (m w.a).defs (m w.b).defs) 0
masks_by m w (an_action is_null) = masks 0 0 0
masks_by m w (an_action is_assign) = masks 0 (m w.a).defs 0
masks_by m w (an_action is_choose) = masks 0 (m w.a).defs 0
masks_by m w (an_action is_reset) = masks 0 (m w.a).defs 0
masks_by m w (an_action is_communicate) = masks 0 (m w.b).defs 0
masks_by m w (an_action is_to) = masks 0 0 (bit w.a)
masks_by m w (an_action is_then) = masks 0 (join (m w.a).defs (m w.b).defs) (join (m w.a).leads (m w.b).leads)
masks_by m w (an_action is_select) = masks 0 (m w.a).defs (m w.a).leads
masks_by m w (an_action is_case) = masks 0 (m w.b).defs (m w.b).leads
masks_by m w (an_action is_while) = masks 0 (m w.b).defs (m w.b).leads
masks_by m w (an_action is_for) = masks 0 (join (m w.a).defs (m w.b).defs) (m w.b).leads
masks_by m w (another expression) = masks 0 0 0
masks_by m w (another pattern) = masks 0 0 0
masks_by m w (another offer) = masks 0 0 0
masks_by m w (another gets) = masks (join (m w.b).uses (m w.c).uses) (join (bit w.a) (m w.c).defs) 0
masks_by m w (another of_type) = masks 0 (join (bit w.a) (m w.c).defs) 0
masks_by m w (another item) = masks 0 (join (bit w.a) (m w.b).defs) 0
masks_by m w (another range) = masks 0 (bit w.a) 0
masks_by m w (another action) = masks 0 0 0
masks_by m w (another branch) = masks 0 (join (m w.a).defs (m w.b).defs) (join (m w.a).leads (m w.b).leads)
masks_by m w (another arm) =
    masks (join (m w.a).uses (m w.c).uses) (join (m w.a).defs (join (m w.b).defs (m w.c).defs)) (join (m w.b).leads (m w.c).leads)
masks_by m w (another unknown) = masks 0 0 0

-- field a of a row that has it for a variable or a state is a bit's number
abbrev pub Small : Means → ℕ → Type 0
Small (an_expression is_variable) n = n < 64
Small (an_expression is_constant) n = Unit
Small (an_expression (is_unary o)) n = Unit
Small (an_expression (is_binary o)) n = Unit
Small (a_pattern is_any) n = Unit
Small (a_pattern is_bind) n = n < 64
Small (a_pattern is_value) n = Unit
Small (a_pattern is_where) n = Unit
Small (an_offer o) n = Unit
Small (an_action is_null) n = Unit
Small (an_action is_assign) n = Unit
Small (an_action is_choose) n = Unit
Small (an_action is_reset) n = Unit
Small (an_action is_communicate) n = Unit
Small (an_action is_to) n = n < 64
Small (an_action is_then) n = Unit
Small (an_action is_select) n = Unit
Small (an_action is_case) n = Unit
Small (an_action is_while) n = Unit
Small (an_action is_for) n = Unit
Small (another expression) n = Unit
Small (another pattern) n = Unit
Small (another offer) n = Unit
Small (another gets) n = n < 64
Small (another of_type) n = n < 64
Small (another item) n = n < 64
Small (another range) n = n < 64
Small (another action) n = Unit
Small (another branch) n = Unit
Small (another arm) n = Unit
Small (another unknown) n = Unit

-- room for the masks of every row
pub record Lent (s : List ℕ) (i : Image) (ms : List Masks) : Type 0 where
  pub rooted : Rooted s i
  pub size : row_count i ≤ length ms

-- and no more than that
pub record Fit (s : List ℕ) (i : Image) (ms : List Masks) : Type 0 where
  pub rooted : Rooted s i
  pub size : length ms ≡ row_count i
