-- The items that declare names: what is read of each is spelled by its rule, and a refusal is fair.
use Rattle.std.proofs.Common.{◌≡◌, ℕ, List, Bool, true, false, refl, inl, inr, codes, is_some}
use Rattle.fzn_lexer.specs.Spots.{Spot, first, after_first, IsWhole}
use Rattle.fzn_lexer.specs.declared.kind.Kind.TheVariants as kind
use Rattle.fzn_reader.specs.declared.begin.Begin.{Begin}
use Rattle.fzn_reader.specs.declared.begin.Begin.TheVariants as begin
use Rattle.fzn_reader.specs.declared.code.Code.TheVariants as code
use Rattle.fzn_reader.specs.declared.par_type.ParType.{ParType as ParTypeValue}
use Rattle.fzn_reader.specs.declared.par_type.ParType.TheVariants as par
use Rattle.fzn_reader.specs.declared.scalar.Scalar.{Scalar}
use Rattle.fzn_reader.specs.declared.scalar.Scalar.TheVariants.{IntConst, BoolConst}
use Rattle.fzn_reader.specs.Refusals.{is_mark, is_word}
use Rattle.fzn_reader.specs.Names.{Names, find_name}
use Rattle.fzn_reader.specs.Exprs.{begins}
use Rattle.fzn_reader.specs.Drafts.{Stated}
use Rattle.fzn_reader.specs.Types.{partype_at, vartype_at, set_type_by, new_name_at}
use Rattle.fzn_reader.specs.Outputs.{variable_ann}
use Rattle.fzn_reader.specs.Items.{value_by, parameter_at, initialiser_at, variable_at}
use Rattle.fzn_parser.specs.Grammar.{◌·◌, ◌∣◌, Optional, Range, Braces, Mark, Keyword, Name, ParType, VarType, Expr, Ann, Parameter, Variable}
use Rattle.fzn_parser.specs.Laws.{Reads}
use Rattle.fzn_parser.proofs.Samples.{Sample, seq, whole_of, mark_sample, word_sample, name_sample, expr_sample, annotations_sample, left_out, given_sample}
use Rattle.fzn_parser.proofs.Lawful.{IsLawful, first_passes, after, is_ok, refused, onward, given, next, finish, wider, widen, choice, nothing_read, took, takes_spelled, mark_law, word_law, name_law}
use Rattle.fzn_parser.proofs.BeginLaws.{Begun, begun, name_expr, too_many, float_word}
use Rattle.fzn_parser.proofs.ExprLaws.{range_law, braces_law, set_law, scalar_law}
use Rattle.fzn_parser.proofs.AnnLaws.{ann_law, passed_law, annotations_law}

-- this word is read
pub took_word : (text : List ℕ) (ts : List Spot) → IsWhole ts → is_word text ts ≡ true → Reads (Keyword text) ts (after_first ts)
took_word text ts w h = took _ (takes_spelled kind.Word text) ts w h

partype_words : Sample (Keyword (codes "bool") ∣ Keyword (codes "int") ∣ (Keyword (codes "set") · Keyword (codes "of") · Keyword (codes "int")))
partype_words = let w = word_sample (codes "int") in (w.0, inr (inl w.1))

vartype_words : Sample (Keyword (codes "bool") ∣ Keyword (codes "int") ∣ Range ∣ Braces)
vartype_words = let w = word_sample (codes "int") in (w.0, inr (inl w.1))

pub partype_law : (ts : List Spot) → IsWhole ts → IsLawful ParType after ts (partype_at ts)
unfolding partype_at ParType
partype_law ts w =
    choice (is_word (codes "bool") ts) (λ h. is_ok _ (wider (λ us p. inl p) (took_word _ ts w h)))
    (λ h. choice (is_word (codes "int") ts) (λ h. is_ok _ (wider (λ us p. inr (inl p)) (took_word _ ts w h)))
    (λ h. choice (is_word (codes "set") ts) (λ h. widen (λ us p. inr (inr p)) (let r = took_word _ ts w h in onward r (next (word_law _ _ r.whole) (word_sample (codes "int")) (λ of p. finish (λ int. (par.Set, int)) (word_law _ of p) (λ x. refl)))))
    (λ h. choice (is_word (codes "float") ts) (λ h. refused code.Float ts w (float_word (first ts) h) partype_words) (λ h. refused code.Syntax ts w refl partype_words))))

set_type_law : (b : Begin) (ts : List Spot) → IsWhole ts → Begun b ts → IsLawful VarType after ts (set_type_by b ts)
unfolding VarType
set_type_law begin.Brace ts w r = widen (λ us p. inr (inr (inr p))) (finish (λ set. (record { set = set.0; truth = false }, set.1)) (braces_law ts r) (λ x. refl))
set_type_law b ts w r = widen (λ us p. inr (inr (inl p))) (finish (λ set. (record { set = set.0; truth = false }, set.1)) (range_law ts w) (λ x. refl))

pub vartype_law : (ts : List Spot) → IsWhole ts → IsLawful VarType after ts (vartype_at ts)
unfolding vartype_at VarType
vartype_law ts w =
    choice (is_word (codes "bool") ts) (λ h. is_ok _ (wider (λ us p. inl p) (took_word _ ts w h)))
    (λ h. choice (is_word (codes "int") ts) (λ h. is_ok _ (wider (λ us p. inr (inl p)) (took_word _ ts w h)))
    (λ h. choice (is_word (codes "float") ts) (λ h. refused code.Float ts w (float_word (first ts) h) vartype_words)
    (λ h. choice (is_word (codes "set") ts) (λ h. refused code.SetVar ts w h vartype_words) (λ h. set_type_law (begins ts) ts w (begun ts w)))))

pub new_name_law : (room : Bool) (names : Names) (ts : List Spot) → IsWhole ts → IsLawful Name after ts (new_name_at room names ts)
unfolding new_name_at
new_name_law room names ts w = given (name_law ts w) (whole_of (λ us q. q)) (λ name r. choice (is_some (find_name names name.0)) (λ h. refused code.DeclaredTwice ts w (first_passes r) name_sample) (λ h. choice room (λ h. is_ok name r) (λ h. refused code.TooMany ts w (too_many (first ts) (name_expr (first ts) (first_passes r))) name_sample)))

value_law : (ty : ParTypeValue) (names : Names) (ts : List Spot) → IsWhole ts → IsLawful Expr after ts (value_by ty names ts)
unfolding Expr
value_law par.Bool names ts w = widen (λ us p. inl p) (finish _ (scalar_law BoolConst names ts w) (λ x. refl))
value_law par.Int names ts w = widen (λ us p. inl p) (finish _ (scalar_law IntConst names ts w) (λ x. refl))
value_law par.Set names ts w = widen (λ us p. inl p) (finish _ (set_law true names ts w) (λ x. refl))

pub parameter_law : (d : Stated) (ts : List Spot) → IsWhole ts → IsLawful Parameter after ts (parameter_at d ts)
unfolding parameter_at Parameter
parameter_law d ts w = next (partype_law ts w) (seq (mark_sample (codes ":")) (seq name_sample (seq annotations_sample given_sample))) (λ ty p. next (mark_law _ ty.1 p) (seq name_sample (seq annotations_sample given_sample)) (λ colon p. next (new_name_law true d.names colon p) (seq annotations_sample given_sample) (λ name p.
    next (annotations_law _ passed_law tt name.1 p) given_sample (λ anns p. next (mark_law _ anns.1 p) expr_sample (λ equals p. finish _ (value_law ty.0 d.names equals p) (λ x. refl))))))

initialiser_law : (s : Scalar) (names : Names) (ts : List Spot) → IsWhole ts → IsLawful (Optional (Mark (codes "=") · Expr)) after ts (initialiser_at s names ts)
unfolding initialiser_at Expr
initialiser_law s names ts w = choice (is_mark (codes "=") ts)
    (λ h. widen (λ us p. inr p) (let r = took _ (takes_spelled kind.Mark (codes "=")) ts w h in onward r (widen (λ us p. inl p) (finish _ (scalar_law s names _ r.whole) (λ x. refl)))))
    (λ h. is_ok _ (nothing_read ts (inl refl) w))

variable_ann_law : (output : Bool) (ts : List Spot) → IsWhole ts → IsLawful Ann after ts (variable_ann output ts)
unfolding variable_ann
variable_ann_law output ts w = finish _ (ann_law ts w) (λ x. refl)

-- from its "var" on
pub variable_law : (d : Stated) (ts : List Spot) → Reads (Keyword (codes "var")) ts (after_first ts) → IsLawful Variable after ts (variable_at d ts)
unfolding variable_at Variable
variable_law d ts r = onward r (next (vartype_law (after_first ts) r.whole) (seq (mark_sample (codes ":")) (seq name_sample (seq annotations_sample left_out))) (λ ty p. next (mark_law _ ty.1 p) (seq name_sample (seq annotations_sample left_out)) (λ colon p. next (new_name_law _ d.names colon p) (seq annotations_sample left_out) (λ name p.
    next (annotations_law _ variable_ann_law false name.1 p) left_out (λ output p. finish _ (initialiser_law _ d.names output.1 p) (λ x. refl))))))
