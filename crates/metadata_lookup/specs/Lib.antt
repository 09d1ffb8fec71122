-- what the walks in search of a host say
pub mod Hosts
