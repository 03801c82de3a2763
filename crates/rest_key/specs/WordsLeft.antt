-- The words that are left where they are handed out one by one: of what is ready, of a list, of the parts of a constraint.
use Rattle.std.specs.Prelude.{ℕ, List, [], ◌∷◌, ◌++◌, ℤ, Option, Some, None}
use Rattle.std.specs.List.{flat_map}
use Rattle.std.proofs.Common.{Bor}
use Rattle.fzn_model.specs.declared.con.Con.{Con}
use Rattle.rest_key.specs.declared.few.Few.{Few}
use Rattle.rest_key.specs.declared.few.Few.TheVariants as few
use Rattle.rest_key.specs.declared.items.Items.{Items}
use Rattle.rest_key.specs.declared.items.Items.TheVariants as items
use Rattle.rest_key.specs.declared.items.Field.{Field}
use Rattle.rest_key.specs.declared.fields.Fields.{Fields}
use Rattle.rest_key.specs.declared.fields.Fields.TheVariants as fields
use Rattle.rest_key.specs.declared.digest.Detail.{Detail}
use Rattle.rest_key.specs.declared.digest.Detail.TheVariants as detail
use Rattle.rest_key.specs.Words.{list_words, number_words, term_words, run_words, linear_term_words, task_words, used_words, cost_words, con_parts, far_parts}

abbrev pub few_words : Few → List ℤ
few_words few.Zero = []
few_words (few.One a) = a ∷ []
few_words (few.Two a b) = a ∷ b ∷ []
few_words (few.Three a b c) = a ∷ b ∷ c ∷ []
few_words (few.Four a b c d) = a ∷ b ∷ c ∷ d ∷ []
few_words (few.Five a b c d e) = a ∷ b ∷ c ∷ d ∷ e ∷ []

-- the words of the members that are left of a list
abbrev pub items_words : Items → List ℤ
items_words items.Done = []
items_words (items.Runs xs) = flat_map run_words xs.now
items_words (items.LinearTerms xs) = flat_map linear_term_words xs.now
items_words (items.Terms xs) = flat_map term_words xs.now
items_words (items.Numbers xs) = flat_map number_words xs.now
items_words (items.Tasks xs) = flat_map task_words xs.now
items_words (items.Used xs) = flat_map used_words xs.now
items_words (items.Cost xs) = flat_map cost_words xs.now

abbrev pub field_words : Field → List ℤ
field_words f = f.word ∷ few_words f.few ++ items_words f.items

abbrev pub fields_words : Fields → List ℤ
fields_words fields.Done = []
fields_words (fields.One f) = field_words f
fields_words (fields.Two f g) = field_words f ++ field_words g
fields_words (fields.Three f g h) = field_words f ++ field_words g ++ field_words h

-- all parts of a constraint, or those that the far digest takes
abbrev pub detail_parts : Detail → Con → List ℤ
detail_parts detail.All = con_parts
detail_parts detail.Far = far_parts

abbrev pub cost_left : Option (Bor (List (ℤ × ℕ))) → List ℤ
cost_left None = []
cost_left (Some c) = list_words cost_words c.now

abbrev pub count_left : Option ℤ → List ℤ
count_left None = []
count_left (Some n) = n ∷ []
