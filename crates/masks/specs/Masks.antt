-- What the masks of a row hold: the variables that its tree uses, those that it defines or resets, and the states that it leads
-- to; of a row in a list, the masks of the list from there on. Assumes nothing.
use mathlib.Core.{Path.◌≡◌, List.List, List.map}
use Rattle.std.specs.Prelude.{ℕ, ◌<◌, ◌≤◌, length, get_or}
use Rattle.model.specs.Masks.{bit, union}
use Rattle.model.specs.Image.{Tables, fields_of}
use Rattle.model.specs.Rows.{expression, pattern, offer, gets, of_type, item, range, action, branch, arm, unknown, Means, an_expression, a_pattern, an_offer, an_action, another, means_at}
use Rattle.model.specs.Trees.{Branches, Arms}
use Rattle.model.specs.Decode.{expression_at, pattern_at, action_at, list_at, offers_at, gets_at, of_types_at, variables_at, branches_of, arms_of}
use Rattle.model.specs.Binding.{assigned, chosen, dropped, use_of_exp, def_of_pat, use_of_pat, use_of_offers, def_of_offers, touches, touches_branches, touches_arms}
use Rattle.model.specs.Sets.{use_of_arms, targets, targets_branches, targets_arms}
use Rattle.masks.specs.declared.Masks.{Masks}

-- the branches and the arms of the list that starts at a row
abbrev pub branches_at : Tables → ℕ → Branches
branches_at x r = branches_of x (action_at x) (list_at x r)

abbrev pub arms_at : Tables → ℕ → Arms
arms_at x r = arms_of x (action_at x) (list_at x r)

abbrev pub use_as : Tables → ℕ → Means → ℕ
use_as x r (an_expression e) = use_of_exp (expression_at x r)
use_as x r (a_pattern p) = use_of_pat (pattern_at x r)
use_as x r (an_offer o) = use_of_offers (offers_at x r)
use_as x r (an_action a) = 0
use_as x r (another expression) = 0
use_as x r (another pattern) = 0
use_as x r (another offer) = 0
use_as x r (another gets) = union (map (λ i. use_of_exp i.e) (gets_at x r))
use_as x r (another of_type) = 0
use_as x r (another item) = 0
use_as x r (another range) = 0
use_as x r (another action) = 0
use_as x r (another branch) = 0
use_as x r (another arm) = use_of_arms (arms_at x r)
use_as x r (another unknown) = 0

abbrev pub def_as : Tables → ℕ → Means → ℕ
def_as x r (an_expression e) = 0
def_as x r (a_pattern p) = def_of_pat (pattern_at x r)
def_as x r (an_offer o) = def_of_offers (offers_at x r)
def_as x r (an_action a) = touches (action_at x r)
def_as x r (another expression) = 0
def_as x r (another pattern) = 0
def_as x r (another offer) = 0
def_as x r (another gets) = assigned (gets_at x r)
def_as x r (another of_type) = chosen (of_types_at x r)
def_as x r (another item) = dropped (variables_at x r)
def_as x r (another range) = bit (fields_of x r).a
def_as x r (another action) = 0
def_as x r (another branch) = touches_branches (branches_at x r)
def_as x r (another arm) = touches_arms (arms_at x r)
def_as x r (another unknown) = 0

abbrev pub lead_as : Tables → ℕ → Means → ℕ
lead_as x r (an_expression e) = 0
lead_as x r (a_pattern p) = 0
lead_as x r (an_offer o) = 0
lead_as x r (an_action a) = targets (action_at x r)
lead_as x r (another expression) = 0
lead_as x r (another pattern) = 0
lead_as x r (another offer) = 0
lead_as x r (another gets) = 0
lead_as x r (another of_type) = 0
lead_as x r (another item) = 0
lead_as x r (another range) = 0
lead_as x r (another action) = 0
lead_as x r (another branch) = targets_branches (branches_at x r)
lead_as x r (another arm) = targets_arms (arms_at x r)
lead_as x r (another unknown) = 0

unfoldable pub use_at : Tables → ℕ → ℕ
use_at x r = use_as x r (means_at x r)

unfoldable pub def_at : Tables → ℕ → ℕ
def_at x r = def_as x r (means_at x r)

unfoldable pub lead_at : Tables → ℕ → ℕ
lead_at x r = lead_as x r (means_at x r)

abbrev pub masks : ℕ → ℕ → ℕ → Masks
masks u d l = record { uses = u; defs = d; leads = l }

-- the masks of row r
abbrev pub masks_at : Tables → ℕ → Masks
masks_at x r = masks (use_at x r) (def_at x r) (lead_at x r)

-- the masks of row r, or of the list that starts there; none is past the end and has nothing
abbrev pub masks_in : List Masks → ℕ → Masks
masks_in ms r = get_or ms r (masks 0 0 0)

-- the masks of the rows below n are filled in
pub record Filled (x : Tables) (n : ℕ) (ms : List Masks) : Type 0 where
  pub each : (r : ℕ) → r < n → masks_in ms r ≡ masks_at x r
  pub size : n ≤ length ms
