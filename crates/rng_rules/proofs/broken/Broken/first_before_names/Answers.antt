use Rattle.rng_rules.proofs.BrokenClauses as clauses
use Rattle.rng_rules.proofs.broken.Broken.first_before_names.Goals as goal

pub returns-then-self : goal.returns-then-self
returns-then-self c = λ g is. let b = c.args.self.now in clauses.least_18 g b is c.if-self.true

pub returns-then-self-2 : goal.returns-then-self-2
returns-then-self-2 c = λ g is. let b = c.args.self.now in clauses.least_19 g b is (clauses.intact_19 g b is c.if-self.false) c.if-self-2.true

pub returns-then-self-3 : goal.returns-then-self-3
returns-then-self-3 c = λ g is. let b = c.args.self.now in clauses.least_20 g b is (clauses.intact_20 g b is (clauses.intact_19 g b is c.if-self.false) c.if-self-2.false) c.if-self-3.true

pub returns-then-self-4 : goal.returns-then-self-4
returns-then-self-4 c = λ g is. let b = c.args.self.now in clauses.least_21 g b is (clauses.intact_21 g b is (clauses.intact_20 g b is (clauses.intact_19 g b is c.if-self.false) c.if-self-2.false) c.if-self-3.false) c.if-self-4.true

pub returns-then-self-5 : goal.returns-then-self-5
returns-then-self-5 c = λ g is. let b = c.args.self.now in clauses.least_22 g b is (clauses.intact_22 g b is (clauses.intact_21 g b is (clauses.intact_20 g b is (clauses.intact_19 g b is c.if-self.false) c.if-self-2.false) c.if-self-3.false) c.if-self-4.false) c.if-self-5.true

pub returns-then-self-6 : goal.returns-then-self-6
returns-then-self-6 c = λ g is. let b = c.args.self.now in clauses.least_23 g b is (clauses.intact_23 g b is (clauses.intact_22 g b is (clauses.intact_21 g b is (clauses.intact_20 g b is (clauses.intact_19 g b is c.if-self.false) c.if-self-2.false) c.if-self-3.false) c.if-self-4.false) c.if-self-5.false) c.if-self-6.true

pub returns-else-self-6 : goal.returns-else-self-6
returns-else-self-6 c = λ g is. let b = c.args.self.now in clauses.intact_24 g b is (clauses.intact_23 g b is (clauses.intact_22 g b is (clauses.intact_21 g b is (clauses.intact_20 g b is (clauses.intact_19 g b is c.if-self.false) c.if-self-2.false) c.if-self-3.false) c.if-self-4.false) c.if-self-5.false) c.if-self-6.false
