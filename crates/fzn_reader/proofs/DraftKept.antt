-- A draft keeps its limits as it grows.
use Rattle.std.proofs.Common.{◌≡◌, ℕ, suc, ◌+◌, ◌*◌, ◌<◌, List, [], ◌∷◌, Bool, true, false, cond, length, sym, subst, Some, None, Option, Bor, arith, ℤ}
use Rattle.std.specs.Prelude.{All, IfSome, option_copied}
use Rattle.std.specs.Str.{bytes_eq}
use Rattle.std.proofs.lemmas.List.Elements.{All-push}
use Rattle.std.proofs.lemmas.List.{length_push}
use Rattle.fzn_model.specs.declared.con.Con.{Con}
use Rattle.fzn_model.specs.declared.out.Out.{Out}
use Rattle.fzn_model.specs.declared.goal.Goal.{Goal}
use Rattle.fzn_model.specs.declared.pick.Pick.{Pick}
use Rattle.fzn_model.specs.Limits.{DomainInLimits, OutInLimits, GoalInLimits, PickInLimits, IsModel}
use Rattle.fzn_reader.specs.declared.decl.Decl.{Decl}
use Rattle.fzn_reader.specs.Names.{Names, find_name}
use Rattle.fzn_reader.specs.Drafts.{Stated, with_name, with_con, with_out, with_dom, with_item}
use Rattle.fzn_reader.specs.Invariants.{IsDraft, DeclKept, EntryKept, ConFits}
use Rattle.fzn_reader.proofs.Wider.{names_wider, cons_wider, outs_wider, goal_wider}

by_test : (ds : List (List (ℤ × ℤ))) (b : Bool) (e d : Decl) (rest : Option Decl) → DeclKept ds e → (rest ≡ Some d → DeclKept ds d) → cond b (Some e) rest ≡ Some d → DeclKept ds d
by_test ds true e d rest k more h = let same : e ≡ d = cc in subst (DeclKept ds) same k
by_test ds false e d rest k more h = more h

find_kept : (ds : List (List (ℤ × ℤ))) (names : Names) (name : List ℕ) (d : Decl) → All (EntryKept ds) names → find_name names name ≡ Some d → DeclKept ds d
find_kept ds [] name d p h = absurd (cc)
find_kept ds (e ∷ es) name d p h = by_test ds (bytes_eq name e.0) e.1 d (find_name es name) (p 0 e (omega arith)).decl (find_kept ds es name d (λ k x q. p (suc k) x (omega arith))) h

-- what a look-up found
pub found_kept : (ds : List (List (ℤ × ℤ))) (names : Names) (name : List ℕ) (r : Option (Bor Decl)) → All (EntryKept ds) names → option_copied r ≡ find_name names name → IfSome r (λ d. DeclKept ds d.now)
found_kept ds names name None p h = tt
found_kept ds names name (Some d) p h = find_kept ds names name d.now p (sym h)

-- one part more of a draft
pub kept_name : (d : Stated) (name : List ℕ) (what : Decl) → DeclKept d.doms what → IsDraft d → IsDraft (with_name d name what)
kept_name d name what k p = record { vars = p.vars; items = p.items; elements = p.elements; count = p.count; domains = p.domains; names = All-push (EntryKept d.doms) d.names (name, what) p.names (record { decl = k }); cons = p.cons; outs = p.outs; goal = p.goal }

pub kept_con : (d : Stated) (c : Con) → ConFits d.doms c → length d.cons < d.items + 2 * length d.doms → IsDraft d → IsDraft (with_con d c)
kept_con d c k room p = record { vars = p.vars; items = p.items; elements = p.elements; count = omega (arith, length_push d.cons c); domains = p.domains; names = p.names; cons = All-push (ConFits d.doms) d.cons c p.cons k; outs = p.outs; goal = p.goal }

pub kept_item : (d : Stated) (c : Con) → ConFits d.doms c → d.items < 200000 → IsDraft d → IsDraft (with_item d c)
kept_item d c k room p = record { vars = p.vars; items = omega arith; elements = p.elements; count = omega (arith, length_push d.cons c, p.count); domains = p.domains; names = p.names; cons = All-push (ConFits d.doms) d.cons c p.cons k; outs = p.outs; goal = p.goal }

pub kept_out : (d : Stated) (o : Out) → OutInLimits (length d.doms) o → IsDraft d → IsDraft (with_out d o)
kept_out d o k p = record { vars = p.vars; items = p.items; elements = p.elements; count = p.count; domains = p.domains; names = p.names; cons = p.cons; outs = All-push (OutInLimits (length d.doms)) d.outs o p.outs k; goal = p.goal }

pub kept_dom : (d : Stated) (dom : List (ℤ × ℤ)) → DomainInLimits dom → length d.doms < 100000 → IsDraft d → IsDraft (with_dom d dom)
kept_dom d dom k room p = record {
  vars = omega (arith, length_push d.doms dom);
  items = p.items;
  elements = p.elements;
  count = omega (arith, length_push d.doms dom, p.count);
  domains = All-push DomainInLimits d.doms dom p.domains k;
  names = names_wider d.doms dom d.names p.names;
  cons = cons_wider d.doms dom d.cons p.cons;
  outs = outs_wider d.doms dom d.outs p.outs;
  goal = goal_wider d.doms dom d.goal p.goal;
}

-- the model of a draft
pub model_kept : (d : Stated) (g : Goal) (order : List Pick) → IsDraft d → d.goal ≡ Some g → All (PickInLimits (length d.doms)) order → IsModel (record { doms = d.doms; cons = d.cons; goal = g; outs = d.outs; order = order })
model_kept d g order p e q = record {
  variables = p.vars;
  domains = p.domains;
  constraints = omega (arith, p.count, p.vars, p.items);
  cons = λ k c h. (p.cons k c h).kept;
  truths = λ k c h. (p.cons k c h).truths;
  goal = let P : Option Goal → Type 0 = λ o. IfSome o (GoalInLimits (length d.doms)) in subst P e p.goal;
  outs = p.outs;
  order = q;
}
