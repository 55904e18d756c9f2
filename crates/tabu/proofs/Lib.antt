mod HeldIds
mod RoundReads
